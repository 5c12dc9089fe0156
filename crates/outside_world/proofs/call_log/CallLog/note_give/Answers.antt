use Rattle.std.proofs.Common.{◌≡◌, ℕ, List, [], ◌∷◌, ◌++◌, length, ◌∙◌, ap, arith, refl, sym, rules}
use Rattle.std.proofs.lemmas.List.{append-nil, take_all}
use Rattle.outside_world.specs.declared.call_log.Call.TheVariants.{Give}
use Rattle.outside_world.specs.Events.{Given}
use Rattle.outside_world.specs.Log.{with_event}
use Rattle.outside_world.specs.LogFields.{log_of}
use Rattle.outside_world.proofs.NotedFields.{log_of-later, Agrees-later}
use Rattle.std.proofs.Common.{subst, sym, arith}
use Rattle.outside_world.specs.Log.{Log, FitsGive}
use Rattle.outside_world.proofs.Rooms.{calls_are, given_is}
use Rattle.std.proofs.Common.{length}
use Rattle.outside_world.proofs.call_log.CallLog.note_give.Goals as goal

-- the output grows by what was given
pub invariant_of-self-2 : goal.invariant_of-self-2
invariant_of-self-2 c =
    let w = c.self.inside in
    let is = c.self.invariant in
    let bytes = c.args.bytes.now in
    let notes : c.push.new.self.items ≡ w.calls.items ++ Give (length bytes) ∷ [] = search rules in
    Agrees-later w (record w { output = c.extend_from_slice.new.self; calls = c.push.new.self }) (Give (length bytes)) bytes [] is (record {
      input = refl;
      first_a = refl;
      first_b = refl;
      output = c.in_ok-extend_from_slice.ensures.items;
      written = sym (append-nil w.written.items);
      calls = notes;
      room = refl;
    }) refl refl (record { taken = omega arith; within_input = is.within_input; a_now = is.a_now; b_now = is.b_now }) (record {
      calls = omega (arith, c.reserve.ensures.capacity, c.push.ensures.capacity);
      output = c.extend_from_slice.ensures.capacity;
      a = omega arith;
      b = omega arith;
      written = omega arith;
    })

-- the list has the give at its end
pub returns-clause-ok : goal.returns-clause-ok
returns-clause-ok c =
    let w = c.self.inside in
    let bytes = c.args.bytes.now in
    let notes : c.push.new.self.items ≡ w.calls.items ++ Give (length bytes) ∷ [] = search rules in
    log_of-later w (record w { output = c.extend_from_slice.new.self; calls = c.push.new.self })
    (Give (length bytes)) bytes [] c.self.invariant (record {
      input = refl;
      first_a = refl;
      first_b = refl;
      output = c.in_ok-extend_from_slice.ensures.items;
      written = sym (append-nil w.written.items);
      calls = notes;
      room = refl;
    })
    ∙ ap (λ (l : List ℕ). with_event (log_of w) (Given l)) (take_all (length bytes) bytes (omega arith))
    ∙ ap (λ log. with_event log (Given bytes)) c.self.view_is

-- where it fits there is room for the call
pub returns-in_err-reserve-clause-fits : goal.returns-in_err-reserve-clause-fits
returns-in_err-reserve-clause-fits c = λ fits.
    let there = subst (λ (log : Log). FitsGive log (length c.args.bytes.now)) (sym c.self.view_is) fits in
    absurd (omega (arith, there.call, calls_are c.self.inside c.self.invariant, c.self.invariant.room_calls, c.in_err-reserve.ensures.full))

-- and for its bytes
pub returns-in_err-extend_from_slice-clause-fits : goal.returns-in_err-extend_from_slice-clause-fits
returns-in_err-extend_from_slice-clause-fits c = λ fits.
    let there = subst (λ (log : Log). FitsGive log (length c.args.bytes.now)) (sym c.self.view_is) fits in
    absurd (omega (
      arith,
      there.output,
      given_is c.self.inside c.self.invariant,
      c.self.invariant.room_output,
      c.in_err-extend_from_slice.ensures.full,
    ))
