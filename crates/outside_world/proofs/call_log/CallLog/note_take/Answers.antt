use Rattle.std.proofs.Common.{◌∙◌, ap, arith, refl}
use Rattle.outside_world.specs.declared.call_log.Call.TheVariants.{Take}
use Rattle.outside_world.specs.Events.{Taken, taken_by}
use Rattle.outside_world.specs.Log.{with_event}
use Rattle.outside_world.proofs.NotedFields.{log_of-quietly, Agrees-quietly}
use Rattle.std.proofs.Common.{◌+◌, length-drop}
use Rattle.outside_world.specs.LogFields.{log_of}
use Rattle.std.proofs.Common.{subst, sym, arith}
use Rattle.outside_world.specs.Log.{Log, FitsCall}
use Rattle.outside_world.proofs.Rooms.{calls_are}
use Rattle.outside_world.proofs.call_log.CallLog.note_take.Goals as goal

-- the place in the input moves on by what was taken, which was there
pub invariant_of-self-2 : goal.invariant_of-self-2
invariant_of-self-2 c =
    let w = c.self.inside in
    let is = c.self.invariant in
    Agrees-quietly w is c.push.new.self (Take c.args.size) c.in_ok-push.ensures.items (w.taken + c.args.size) refl refl (record {
      taken = refl;
      within_input = omega (
        arith,
        is.taken,
        is.within_input,
        rw (← c.self.view_is) at c.requires.within,
        length-drop (taken_by (log_of w).calls) w.input.items,
      );
      a_now = is.a_now;
      b_now = is.b_now;
    }) c.push.ensures.capacity

-- the list has the call at its end
pub returns-clause-ok : goal.returns-clause-ok
returns-clause-ok c =
    let w = c.self.inside in
    log_of-quietly w c.self.invariant c.push.new.self (Take c.args.size) c.in_ok-push.ensures.items (w.taken + c.args.size)
    ∙ ap (λ log. with_event log (Taken c.args.size)) c.self.view_is

-- where a call more fits there is room for it
pub returns-in_err-push-clause-fits : goal.returns-in_err-push-clause-fits
returns-in_err-push-clause-fits c = λ fits.
    let there = subst (λ (log : Log). FitsCall log) (sym c.self.view_is) fits in
    absurd (omega (arith, there, calls_are c.self.inside c.self.invariant, c.self.invariant.room_calls, c.in_err-push.ensures.full))
