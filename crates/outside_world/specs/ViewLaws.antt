-- The laws of what a log of calls tells, in the form in which a world owes them.
use Rattle.std.specs.Prelude.{◌≤◌, ℕ, Bool, true, false, List, [], ◌∷◌, length}
use Rattle.std.proofs.Common.{sym, subst}
use Rattle.std.proofs.Math.Nat.{le_refl, min-le_right}
use Rattle.std.proofs.lemmas.List.{take_all, get_or_past}
use Rattle.outside_world.specs.declared.world.FileName.{FileName}
use Rattle.outside_world.specs.View.{Asked, Moment}
use Rattle.outside_world.specs.Disk.{IsByteByByte}
use Rattle.outside_world.specs.Events.{Event, Taken, Given, Written, Tried, Flushed, Looked, IsTake}
use Rattle.outside_world.specs.Files.{FileState, begin_of, is_same_file, write, try_write, sync, if_for}
use Rattle.outside_world.specs.Files.{after_event, after_events, opened, file_after, disk_of, IsImage}
use Rattle.outside_world.specs.History.{MayLeaveAfter, LeftSince, AskedSince}
use Rattle.outside_world.specs.Log.{Log, first_of, log_view}
use Rattle.outside_world.specs.TornImages.{torn_overwritten, torn_unwritten, torn_image, whole_image}

-- what a crash now may leave is left since any earlier moment, as now is one of them
pub left_counts_now : (log : Log) (t : ℕ) (m : Moment)
    → t ≤ length log.calls → MayLeaveAfter (first_of log) log.calls m → LeftSince (first_of log) log.calls t m
left_counts_now log t m early leaves =
    let now = length log.calls in
    let all = sym (take_all now log.calls (le_refl now)) in
    (now, early, le_refl now, subst (λ l. MayLeaveAfter (first_of log) l m) all leaves)

-- since now, now is the only moment
pub left_only_now : (log : Log) (m : Moment)
    → LeftSince (first_of log) log.calls (length log.calls) m → MayLeaveAfter (first_of log) log.calls m
left_only_now log m (k, since, upto, leaves) =
    subst (λ l. MayLeaveAfter (first_of log) l m) (take_all k log.calls since) leaves

-- a call that hasn't been made is no take
pub none_asked_now : (log : Log) (a : Asked) → AskedSince log.input log.calls (length log.calls) a → ⊥
none_asked_now log a (k, since, takes, asks) =
    subst IsTake (get_or_past log.calls k Looked since) takes

-- what a file reads as stays one of its images
abbrev pub ReadsAnImage : FileState → Type 0
ReadsAnImage s = IsImage s s.now

image_if : (b : Bool) (change : FileState → FileState) (s : FileState)
    → (ReadsAnImage s → ReadsAnImage (change s)) → ReadsAnImage s → ReadsAnImage (if_for b change s)
image_if true change s keeps is = keeps is
image_if false change s keeps is = is

image_event : (f : FileName) (s : FileState) (event : Event) → ReadsAnImage s
    → ReadsAnImage (after_event f s event)
image_event f s (Taken n) is = is
image_event f s (Given bytes) is = is
image_event f s (Written file at bytes) is =
    let torn = torn_overwritten (begin_of at s) bytes s.now (min-le_right at (length s.now)) in
    image_if (is_same_file f file) (write at bytes) s
    (λ here. torn_image s.base s.pending _ s.now _ here torn) is
image_event f s (Tried file at n) is =
    let torn = torn_unwritten (begin_of at s) n s.now in
    image_if (is_same_file f file) (try_write at n) s
    (λ here. torn_image s.base s.pending _ s.now _ here torn) is
image_event f s (Flushed file) is = image_if (is_same_file f file) sync s (λ here. whole_image s.now) is
image_event f s Looked is = is

image_events : (f : FileName) (s : FileState) (events : List Event) → ReadsAnImage s
    → ReadsAnImage (after_events f s events)
image_events f s [] is = is
image_events f s (event ∷ events) is =
    image_events f (after_event f s event) events (image_event f s event is)

pub image_after : (f : FileName) (first : List ℕ) (events : List Event)
    → ReadsAnImage (file_after f first events)
image_after f first events = image_events f (opened first) events (whole_image first)

pub reads_an_image_now : (log : Log) (f : FileName) → ReadsAnImage (file_after f (first_of log f) log.calls)
reads_an_image_now log f = image_after f (first_of log f) log.calls

-- and what is told is said byte by byte
pub byte_by_byte_now : (log : Log) → IsByteByByte (log_view log)
byte_by_byte_now log = λ f.
    let s = file_after f (first_of log f) log.calls in
    (disk_of s.base s.pending, λ c. (λ image. image, λ image. image))
