-- This file shows that the fields of a log go on agreeing when a call is noted, and what they then stand for.
use Rattle.std.proofs.Common.{◌≡◌, ℕ, ◌+◌, ◌≤◌, List, [], ◌∷◌, ◌++◌, length, Vec}
use Rattle.std.proofs.Common.{refl, sym, ◌∙◌, ap, subst, arith, length-append}
use Rattle.std.proofs.lemmas.List.{append-nil, take_all}
use Rattle.std.specs.Vec.{vec_capacity}
use Rattle.std.specs.declared.alloc.Global.{Global}
use Rattle.outside_world.specs.declared.world.FileName.{FileName}
use Rattle.outside_world.specs.declared.world.FileName.TheVariants.{A, B}
use Rattle.outside_world.specs.declared.call_log.Call.{Call}
use Rattle.outside_world.specs.declared.call_log.Call.TheVariants.{Write}
use Rattle.outside_world.specs.declared.call_log.CallLog.TheInside.{Inside}
use Rattle.outside_world.specs.Events.{Event, Written, taken_at, taken_by}
use Rattle.outside_world.specs.Files.{after_event, file_after}
use Rattle.outside_world.specs.Log.{with_event}
use Rattle.outside_world.specs.LogFields.{event_of, given_in, written_in, events_of, size_given, size_written, log_of, Agrees}
use Rattle.outside_world.proofs.FieldEvents.{size_given-append, size_written-append, events_of-push}
use Rattle.outside_world.proofs.NotedCalls.{taken_by-append}
use Rattle.outside_world.proofs.NotedFiles.{file_after-push}

-- the fields, one call later: these bytes came behind the output and those of the writes
pub record IsLater (w later : Inside) (call : Call) (given wrote : List ℕ) : Type 0 where
  pub input : later.input.items ≡ w.input.items
  pub first_a : later.first_a.items ≡ w.first_a.items
  pub first_b : later.first_b.items ≡ w.first_b.items
  pub output : later.output.items ≡ w.output.items ++ given
  pub written : later.written.items ≡ w.written.items ++ wrote
  pub calls : later.calls.items ≡ w.calls.items ++ call ∷ []
  pub room : later.room ≡ w.room

-- no room is lost
pub record KeepsRoom (w later : Inside) : Type 0 where
  pub calls : vec_capacity w.calls ≤ vec_capacity later.calls
  pub output : vec_capacity w.output ≤ vec_capacity later.output
  pub a : vec_capacity w.a ≤ vec_capacity later.a
  pub b : vec_capacity w.b ≤ vec_capacity later.b
  pub written : vec_capacity w.written ≤ vec_capacity later.written

-- what the fields that are no list of calls have become
pub record Follows (w later : Inside) (event : Event) : Type 0 where
  pub taken : later.taken ≡ w.taken + taken_at event
  pub within_input : later.taken ≤ length later.input.items
  pub a_now : later.a.items ≡ (after_event A (file_after A w.first_a.items (log_of w).calls) event).now
  pub b_now : later.b.items ≡ (after_event B (file_after B w.first_b.items (log_of w).calls) event).now

module _ (w later : Inside) (call : Call) (given wrote : List ℕ) (agrees : Agrees w) (is : IsLater w later call given wrote) where
  abbrev event : Event
  event = event_of given wrote call

  noted : (log_of later).calls ≡ (log_of w).calls ++ event ∷ []
  noted =
      (λ i. events_of (is.output i) (is.written i) (is.calls i))
      ∙ events_of-push w.output.items w.written.items given wrote w.calls.items call agrees.given agrees.written

  -- they stand for the log with the call
  pub log_of-later : log_of later ≡ with_event (log_of w) event
  log_of-later = λ i. record { input = is.input i; a = is.first_a i; b = is.first_b i; calls = noted i; room = is.room i }

  -- and agree
  pub Agrees-later : length given ≡ given_in call → length wrote ≡ written_in call → Follows w later event → KeepsRoom w later
      → Agrees later
  Agrees-later all_given all_written follows keeps = record {
    room_calls = omega (arith, agrees.room_calls, keeps.calls, ap (λ r. r.calls) is.room);
    room_output = omega (arith, agrees.room_output, keeps.output, ap (λ r. r.output) is.room);
    room_a = omega (arith, agrees.room_a, keeps.a, ap (λ r. r.a) is.room);
    room_b = omega (arith, agrees.room_b, keeps.b, ap (λ r. r.b) is.room);
    room_written = omega (arith, agrees.room_written, keeps.written, ap (λ r. r.written) is.room);
    taken = omega (arith, follows.taken, agrees.taken, ap taken_by noted, taken_by-append (log_of w).calls (event ∷ []));
    within_input = follows.within_input;
    given = omega (
      arith,
      agrees.given,
      all_given,
      ap length is.output,
      length-append w.output.items given,
      ap size_given is.calls,
      size_given-append w.calls.items (call ∷ []),
    );
    written = omega (
      arith,
      agrees.written,
      all_written,
      ap length is.written,
      length-append w.written.items wrote,
      ap size_written is.calls,
      size_written-append w.calls.items (call ∷ []),
    );
    a_now = follows.a_now ∙ ap (λ s. s.now) (sym (file_after-push A w.first_a.items (log_of w).calls event))
        ∙ (λ i. (file_after A (sym is.first_a i) (sym noted i)).now);
    b_now = follows.b_now ∙ ap (λ s. s.now) (sym (file_after-push B w.first_b.items (log_of w).calls event))
        ∙ (λ i. (file_after B (sym is.first_b i) (sym noted i)).now);
  }

-- a call that gave and wrote nothing
module _ (w : Inside) (agrees : Agrees w) (calls : Vec Call Global) (call : Call) (notes : calls.items ≡ w.calls.items ++ call ∷ []) where
  abbrev quietly : ℕ → Inside
  quietly taken = record w { taken = taken; calls = calls }

  is_later_quietly : (taken : ℕ) → IsLater w (quietly taken) call [] []
  is_later_quietly taken = record {
    input = refl;
    first_a = refl;
    first_b = refl;
    output = sym (append-nil w.output.items);
    written = sym (append-nil w.written.items);
    calls = notes;
    room = refl;
  }

  pub log_of-quietly : (taken : ℕ) → log_of (quietly taken) ≡ with_event (log_of w) (event_of [] [] call)
  log_of-quietly taken = log_of-later w (quietly taken) call [] [] agrees (is_later_quietly taken)

  pub Agrees-quietly : (taken : ℕ) → 0 ≡ given_in call → 0 ≡ written_in call → Follows w (quietly taken) (event_of [] [] call)
      → vec_capacity w.calls ≤ vec_capacity calls → Agrees (quietly taken)
  Agrees-quietly taken no_give no_write follows capacity =
      Agrees-later w (quietly taken) call [] [] agrees (is_later_quietly taken) no_give no_write follows (record {
        calls = capacity;
        output = omega arith;
        a = omega arith;
        b = omega arith;
        written = omega arith;
      })

-- a call that wrote these bytes
module _ (w : Inside) (agrees : Agrees w) (a b written : Vec ℕ Global) (calls : Vec Call Global) (file : FileName) (at : ℕ)
    (bytes : List ℕ) (longer : written.items ≡ w.written.items ++ bytes)
    (notes : calls.items ≡ w.calls.items ++ Write file at (length bytes) ∷ []) where
  abbrev with_write : Inside
  with_write = record w { a = a; b = b; written = written; calls = calls }

  is_later_write : IsLater w with_write (Write file at (length bytes)) [] bytes
  is_later_write = record {
    input = refl;
    first_a = refl;
    first_b = refl;
    output = sym (append-nil w.output.items);
    written = longer;
    calls = notes;
    room = refl;
  }

  all_written : event_of [] bytes (Write file at (length bytes)) ≡ Written file at bytes
  all_written = ap (λ (l : List ℕ). Written file at l) (take_all (length bytes) bytes (omega arith))

  pub log_of-write : log_of with_write ≡ with_event (log_of w) (Written file at bytes)
  log_of-write =
      log_of-later w with_write (Write file at (length bytes)) [] bytes agrees is_later_write
      ∙ ap (λ event. with_event (log_of w) event) all_written

  pub Agrees-write : Follows w with_write (Written file at bytes) → KeepsRoom w with_write → Agrees with_write
  Agrees-write follows keeps =
      let same = subst (λ event. Follows w with_write event) (sym all_written) follows in
      Agrees-later w with_write (Write file at (length bytes)) [] bytes agrees is_later_write refl refl same keeps
