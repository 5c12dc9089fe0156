-- This file shows what each call tells, of any list of calls.
use Rattle.std.proofs.Common.{◌≡◌, ◌≢◌, ℕ, ◌+◌, ◌<◌, ◌≤◌, Bool, true, false, List, [], ◌∷◌, ◌++◌, length, take, drop, Ok, Err}
use Rattle.std.proofs.Common.{refl, sym, ◌∙◌, ap, subst, arith, take-append-drop}
use Rattle.std.proofs.Math.Seq.{take-add}
use Rattle.std.proofs.lemmas.List.{append-nil, drop-drop, nil_from_length}
use Rattle.outside_world.specs.declared.world.Failed.{Failed}
use Rattle.outside_world.specs.declared.world.FileName.{FileName}
use Rattle.outside_world.specs.View.{View}
use Rattle.outside_world.specs.Calls.{Ticks, Passes, Asks, SameFiles, SameStreams, LeavesAll, Moves, Took, Gave}
use Rattle.outside_world.specs.Calls.{Torn, overwritten, Wrote, Synced}
use Rattle.outside_world.specs.Events.{Event, Taken, Given, Written, Tried, Flushed, Looked, taken_by, given_by, IsTake}
use Rattle.outside_world.specs.Files.{FileState, is_same_file, begin_of, write, try_write, sync, if_for, after_event, file_after, IsImage}
use Rattle.outside_world.specs.Disk.{Range}
use Rattle.outside_world.specs.History.{view_after}
use Rattle.outside_world.specs.TornImages.{torn_unwritten}
use Rattle.outside_world.specs.ViewLaws.{image_after}
use Rattle.outside_world.proofs.TornBytes as torn
use Rattle.outside_world.proofs.NotedCalls.{taken_by-append, given_by-append, asked_now, ticks, ticks_wider, ticks_none}
use Rattle.outside_world.proofs.NotedFiles.{file_after-push, other_file, same_file, now-sync}

module _ (input : List ℕ) (firsts : FileName → List ℕ) (events : List Event) where
  abbrev before : View
  before = view_after input firsts events

  abbrev after : Event → View
  after event = view_after input firsts (events ++ event ∷ [])

  abbrev state : FileName → FileState
  state f = file_after f (firsts f) events

  abbrev state_then : FileName → Event → FileState
  state_then f event = file_after f (firsts f) (events ++ event ∷ [])

  -- a call leaves a file that it doesn't change
  still : (f : FileName) (event : Event) → after_event f (state f) event ≡ state f → state_then f event ≡ state f
  still f event same = file_after-push f (firsts f) events event ∙ same

  same_files : (event : Event) → ((f : FileName) → after_event f (state f) event ≡ state f) → SameFiles before (after event)
  same_files event same = record {
    reads = λ f. ap (λ s. s.now) (still f event (same f));
    images = λ f c image. subst (λ s. IsImage s c) (still f event (same f)) image;
  }

  -- a take adds the take that began,
  asks : (n : ℕ) → Ticks (Asks before) before (after (Taken n))
  asks n = ticks_wider _ _ _ _ (λ a now. now.1) (ticks input firsts events (Taken n))

  -- and another call adds none
  passes : (event : Event) → (IsTake event → ⊥) → Passes before (after event)
  passes event other = ticks_wider _ _ _ _ (λ a now. absurd (other now.0)) (ticks input firsts events event)

  taken_more : (n : ℕ) → taken_by (events ++ Taken n ∷ []) ≡ taken_by events + n
  taken_more n = omega (arith, taken_by-append events (Taken n ∷ []))

  taken_same : (event : Event) → taken_by (event ∷ []) ≡ 0 → taken_by (events ++ event ∷ []) ≡ taken_by events
  taken_same event none = omega (arith, none, taken_by-append events (event ∷ []))

  given_same : (event : Event) → given_by (event ∷ []) ≡ [] → (after event).given ≡ before.given
  given_same event none =
      given_by-append events (event ∷ []) ∙ ap (λ l. given_by events ++ l) none ∙ append-nil (given_by events)

  same_streams : (event : Event) → taken_by (event ∷ []) ≡ 0 → given_by (event ∷ []) ≡ [] → SameStreams before (after event)
  same_streams event none nothing = record {
    left = ap (λ k. drop k input) (taken_same event none);
    taken = ap (λ k. take k input) (taken_same event none);
    given = given_same event nothing;
  }

  -- a take moves the place in the input on
  moves : (n : ℕ) (bytes : List ℕ) → bytes ≡ take n before.left → Moves before (after (Taken n)) bytes
  moves n bytes is =
      let further = drop-drop n (taken_by events) input ∙ ap (λ k. drop k input) (sym (taken_more n)) in
      record {
        left = sym (take-append-drop n before.left) ∙ (λ i. sym is i ++ further i);
        taken = ap (λ k. take k input) (taken_more n) ∙ take-add (taken_by events) n input ∙ ap (λ l. before.taken ++ l) (sym is);
      }

  -- a take that takes no byte into a buffer with room is at the input's end
  pub took : (n : ℕ) (buf : List ℕ) → (n ≡ 0 → 0 < length buf → length before.left ≡ 0) → take n buf ≡ take n before.left
      → Took before (after (Taken n)) buf (Ok n)
  took n buf ended bytes = record {
    ticks = asks n;
    files = same_files (Taken n) (λ f. refl);
    given = given_same (Taken n) refl;
    moved = moves n (take n buf) bytes;
    began = λ t a early asks. asked_now input firsts events (Taken n) t a early tt asks;
    ended = λ none room. nil_from_length before.left (ended none room);
    failed = tt;
  }

  -- a take that failed, and was noted
  pub took_none : (buf : List ℕ) (e : Failed) → Took before (after (Taken 0)) buf (Err e)
  took_none buf e = record {
    ticks = asks 0;
    files = same_files (Taken 0) (λ f. refl);
    given = given_same (Taken 0) refl;
    moved = tt;
    began = tt;
    ended = tt;
    failed = moves 0 [] refl;
  }

  unmoved : SameFiles before before
  unmoved = record { reads = λ f. refl; images = λ f c image. image }

  -- and one that left no trace
  pub took_unnoted : (buf : List ℕ) (e : Failed) → Took before before buf (Err e)
  took_unnoted buf e = record {
    ticks = ticks_none _ _;
    files = unmoved;
    given = refl;
    moved = tt;
    began = tt;
    ended = tt;
    failed = record { left = refl; taken = sym (append-nil before.taken) };
  }

  -- a give of the bytes' front
  pub gave : (n : ℕ) (bytes front : List ℕ) → front ≡ take n bytes → Gave before (after (Given front)) bytes (Ok n)
  gave n bytes front is = record {
    ticks = passes (Given front) (λ never. never);
    files = same_files (Given front) (λ f. refl);
    left = ap (λ k. drop k input) (taken_same (Given front) refl);
    taken = ap (λ k. take k input) (taken_same (Given front) refl);
    given = given_by-append events (Given front ∷ []) ∙ ap (λ l. given_by events ++ l) (append-nil front ∙ is);
    failed = tt;
  }

  -- a call that only asks, or of which nothing came
  pub looked : LeavesAll before (after Looked)
  looked = record {
    ticks = passes Looked (λ never. never);
    files = same_files Looked (λ f. refl);
    streams = same_streams Looked refl refl;
  }

  -- and one that left no trace
  pub unnoted : LeavesAll before before
  unnoted = record { ticks = ticks_none _ _; files = unmoved; streams = record { left = refl; taken = refl; given = refl } }

  -- a write puts its bytes there, and any bytes may come to its range
  abbrev Torn_from_before : FileName → ℕ → ℕ → List ℕ → Type 0
  Torn_from_before file at n c = (d : List ℕ) × before.image file d × Torn at n d c

  other_state : (f file : FileName) (event : Event) (change : FileState → FileState) → f ≢ file
      → after_event f (state f) event ≡ if_for (is_same_file f file) change (state f) → state_then f event ≡ state f
  other_state f file event change other is = still f event (is ∙ ap (λ b. if_for b change (state f)) (other_file f file other))

  this_state : (file : FileName) (event : Event) (change : FileState → FileState)
      → after_event file (state file) event ≡ if_for (is_same_file file file) change (state file)
      → state_then file event ≡ change (state file)
  this_state file event change is =
      file_after-push file (firsts file) events event ∙ is ∙ ap (λ b. if_for b change (state file)) (same_file file)

  begins : (file : FileName) (at : ℕ) → at ≤ length (before.reads file) → begin_of at (state file) ≡ at
  begins file at within = omega (arith, within)

  -- an image with a range more comes of one before, as the range began within the file
  image_before : (file : FileName) (at n : ℕ) (c : List ℕ) → at ≤ length (before.reads file)
      → IsImage (try_write at n (state file)) c → Torn_from_before file at n c
  image_before file at n c within image =
      let s = state file in
      let range : Range = record { from = begin_of at s; size = n } in
      let reached = (image_after file (firsts file) events).no_longer in
      subst (λ k. (d : List ℕ) × before.image file d × Torn k n d c) (begins file at within)
      (torn.image_before s.base range s.pending c (omega (arith, begins file at within, within, reached)) image)

  pub wrote : (file : FileName) (at : ℕ) (bytes : List ℕ) → at ≤ length (before.reads file)
      → Wrote before (after (Written file at bytes)) file at bytes (Ok tt)
  wrote file at bytes within =
      let event = Written file at bytes in
      let here : state_then file event ≡ write at bytes (state file) = this_state file event (write at bytes) refl in
      let begin = begins file at within in
      record {
        ticks = passes event (λ never. never);
        streams = same_streams event refl refl;
        other_reads = λ f other. ap (λ s. s.now) (other_state f file event (write at bytes) other refl);
        other_images = λ f c other image. subst (λ s. IsImage s c) (other_state f file event (write at bytes) other refl) image;
        images = λ c image. image_before file at (length bytes) c within (subst (λ s. IsImage s c) here image);
        written = ap (λ s. s.now) here ∙ ap (λ k. overwritten k bytes (before.reads file)) begin;
        failed = tt;
      }

  -- a write that failed, and was noted
  pub tried : (file : FileName) (at : ℕ) (bytes : List ℕ) (e : Failed) → at ≤ length (before.reads file)
      → Wrote before (after (Tried file at (length bytes))) file at bytes (Err e)
  tried file at bytes e within =
      let n = length bytes in
      let event = Tried file at n in
      let here : state_then file event ≡ try_write at n (state file) = this_state file event (try_write at n) refl in
      record {
        ticks = passes event (λ never. never);
        streams = same_streams event refl refl;
        other_reads = λ f other. ap (λ s. s.now) (other_state f file event (try_write at n) other refl);
        other_images = λ f c other image. subst (λ s. IsImage s c) (other_state f file event (try_write at n) other refl) image;
        images = λ c image. image_before file at n c within (subst (λ s. IsImage s c) here image);
        written = tt;
        failed = subst (λ l. Torn at n (before.reads file) l) (sym (ap (λ s. s.now) here)) (torn_unwritten at n (before.reads file));
      }

  -- and one that left no trace
  pub wrote_unnoted : (file : FileName) (at : ℕ) (bytes : List ℕ) (e : Failed) → Wrote before before file at bytes (Err e)
  wrote_unnoted file at bytes e = record {
    ticks = ticks_none _ _;
    streams = record { left = refl; taken = refl; given = refl };
    other_reads = λ f other. refl;
    other_images = λ f c other image. image;
    images = λ c image. (c, image, torn_unwritten at (length bytes) c);
    written = tt;
    failed = torn_unwritten at (length bytes) (before.reads file);
  }

  -- a sync leaves one image of its file, which was one before
  synced_image : (f file : FileName) (c : List ℕ) (b : Bool) → IsImage (if_for b sync (state f)) c → IsImage (state f) c
  synced_image f file c true image =
      subst (λ l. IsImage (state f) l) (sym (torn.synced_image (state f).now c image)) (image_after f (firsts f) events)
  synced_image f file c false image = image

  pub synced : (file : FileName) → Synced before (after (Flushed file)) file (Ok tt)
  synced file =
      let event = Flushed file in
      let push = λ (f : FileName). file_after-push f (firsts f) events event in
      let here : state_then file event ≡ sync (state file) = this_state file event sync refl in
      record {
        leaves = record {
          ticks = passes event (λ never. never);
          files = record {
            reads = λ f. ap (λ s. s.now) (push f) ∙ now-sync (is_same_file f file) (state f);
            images = λ f c image. synced_image f file c (is_same_file f file) (subst (λ s. IsImage s c) (push f) image);
          };
          streams = same_streams event refl refl;
        };
        stable = λ c image. torn.synced_image (state file).now c (subst (λ s. IsImage s c) here image);
      }
