-- This file shows that what is asked of a crash is an image that it may leave.
use Rattle.std.proofs.Common.{◌≡◌, ℕ, ◌+◌, ◌≤◌, Bool, true, false, List, [], ◌∷◌, length, take, replicate, max}
use Rattle.std.proofs.Common.{inr, refl, sym, ap, ◌∙◌, arith, subst}
use Rattle.std.proofs.lemmas.List.{length-replicate}
use Rattle.std.proofs.Math.Nat.{min-le_right}
use Rattle.outside_world.specs.declared.world.FileName.{FileName}
use Rattle.outside_world.specs.declared.world.FileName.TheVariants.{A, B}
use Rattle.outside_world.specs.declared.leave.Leave.{Leave}
use Rattle.outside_world.specs.declared.leave.Leave.TheVariants.{Old, New, Fill}
use Rattle.outside_world.specs.Calls.{Torn, overwritten}
use Rattle.outside_world.specs.Disk.{Range, IsImageOf}
use Rattle.outside_world.specs.Events.{Event, Taken, Given, Written, Tried, Flushed, Looked}
use Rattle.outside_world.specs.Files.{FileState, begin_of, is_same_file, write, try_write, sync, if_for, after_event, after_events}
use Rattle.outside_world.specs.Files.{opened, file_after, disk_of, IsImage}
use Rattle.outside_world.specs.Log.{Log, filled, Covers, left_by, file_then, crash_at}
use Rattle.outside_world.specs.TornImages.{length-overwritten, torn_overwritten, torn_image, whole_image}
use Rattle.outside_world.specs.ViewLaws.{image_after}
use Rattle.outside_world.proofs.TornBytes.{reaches}

-- what holds of each file that calls have led to
pub record Reached (s : FileState) : Type 0 where
  pub covers : Covers s
  pub fills : (byte : ℕ) → IsImage s (filled byte s.base s.pending)

-- a range more, which begins within the file, is filled as any other
torn_fill : (byte at n : ℕ) (file : List ℕ) → at ≤ length file → Torn at n file (overwritten at (replicate n byte) file)
torn_fill byte at n file within =
    subst (λ k. Torn at k file (overwritten at (replicate n byte) file)) (length-replicate n byte)
    (torn_overwritten at (replicate n byte) file within)

length-fill : (byte at n : ℕ) (file : List ℕ) → at ≤ length file
    → length (overwritten at (replicate n byte) file) ≡ max (length file) (at + n)
length-fill byte at n file within =
    length-overwritten at (replicate n byte) file within
    ∙ ap (λ k. max (length file) (at + k)) (length-replicate n byte)

begins : (at : ℕ) (s : FileState) → Reached s → (byte : ℕ) → begin_of at s ≤ length (filled byte s.base s.pending)
begins at s r byte = omega (arith, min-le_right at (length s.now), r.covers byte)

reached_write : (at : ℕ) (bytes : List ℕ) (s : FileState) → Reached s → Reached (write at bytes s)
reached_write at bytes s r = record {
  covers = λ byte. omega (
    arith,
    r.covers byte,
    length-overwritten (begin_of at s) bytes s.now (min-le_right at (length s.now)),
    length-fill byte (begin_of at s) (length bytes) (filled byte s.base s.pending) (begins at s r byte),
  );
  fills = λ byte. torn_image s.base s.pending _ (filled byte s.base s.pending) _ (r.fills byte)
      (torn_fill byte (begin_of at s) (length bytes) (filled byte s.base s.pending) (begins at s r byte));
}

reached_try : (at n : ℕ) (s : FileState) → Reached s → Reached (try_write at n s)
reached_try at n s r = record {
  covers = λ byte. omega (
    arith,
    r.covers byte,
    length-fill byte (begin_of at s) n (filled byte s.base s.pending) (begins at s r byte),
  );
  fills = λ byte. torn_image s.base s.pending _ (filled byte s.base s.pending) _ (r.fills byte)
      (torn_fill byte (begin_of at s) n (filled byte s.base s.pending) (begins at s r byte));
}

reached_sync : (s : FileState) → Reached (sync s)
reached_sync s = record { covers = λ byte. omega arith; fills = λ byte. whole_image s.now }

reached_if : (b : Bool) (change : FileState → FileState) (s : FileState) → (Reached s → Reached (change s)) → Reached s
    → Reached (if_for b change s)
reached_if true change s keeps r = keeps r
reached_if false change s keeps r = r

pub reached_event : (f : FileName) (s : FileState) (event : Event) → Reached s → Reached (after_event f s event)
reached_event f s (Taken n) r = r
reached_event f s (Given bytes) r = r
reached_event f s (Written file at bytes) r = reached_if (is_same_file f file) (write at bytes) s (reached_write at bytes s) r
reached_event f s (Tried file at n) r = reached_if (is_same_file f file) (try_write at n) s (reached_try at n s) r
reached_event f s (Flushed file) r = reached_if (is_same_file f file) sync s (λ _. reached_sync s) r
reached_event f s Looked r = r

reached_events : (f : FileName) (s : FileState) (events : List Event) → Reached s → Reached (after_events f s events)
reached_events f s [] r = r
reached_events f s (event ∷ events) r = reached_events f (after_event f s event) events (reached_event f s event r)

pub reached : (f : FileName) (first : List ℕ) (events : List Event) → Reached (file_after f first events)
reached f first events =
    reached_events f (opened first) events (record { covers = λ byte. omega arith; fills = λ byte. whole_image first })

-- what a file held at its last sync is one of its images
base_is_image : (base : List ℕ) (pending : List Range) → IsImageOf (disk_of base pending) base
base_is_image base pending = record { no_shorter = omega arith; no_longer = reaches base pending; kept = λ i within. inr refl }

pub left_is_image : (leave : Leave) (f : FileName) (first : List ℕ) (events : List Event)
    → IsImage (file_after f first events) (left_by leave (file_after f first events))
left_is_image Old f first events = base_is_image (file_after f first events).base (file_after f first events).pending
left_is_image New f first events = image_after f first events
left_is_image (Fill byte) f first events = (reached f first events).fills byte

-- what is asked of the two files
pub both_images : (log : Log) (moment : ℕ) (leave : Leave) (a b : List ℕ) → a ≡ left_by leave (file_then log moment A)
    → b ≡ left_by leave (file_then log moment B) → (f : FileName) → IsImage (file_then log moment f) ((crash_at log moment a b).files f)
both_images log moment leave a b a_is b_is A =
    subst (λ l. IsImage (file_then log moment A) l) (sym a_is) (left_is_image leave A log.a (take moment log.calls))
both_images log moment leave a b a_is b_is B =
    subst (λ l. IsImage (file_then log moment B) l) (sym b_is) (left_is_image leave B log.b (take moment log.calls))
