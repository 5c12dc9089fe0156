use Rattle.std.proofs.Common.{Option, MatchOption, List, sym, subst}
use Rattle.grid_base.specs.Drawing.{HasViolation}
use Rattle.grid_base.specs.declared.kinds.Step.{Step}
use Rattle.hook_chain.specs.Mending.{IsPermitted}
use Rattle.realm_insert.specs.Misfits.{LeadsBy}
use Rattle.realm_insert.proofs.StepsTaken.{in_order, leads_on, settles_by, room_shrinks}
use Rattle.realm_insert.proofs.settling.settle.Goals as goal

-- a step leaves room for fewer links
pub loop-trace-smaller : goal.loop-trace-smaller
loop-trace-smaller c =
    let taken = c.in_ok-mend.ensures in
    room_shrinks c.loop-trace.drawing.drawing c.mend.new.drawing.drawing c.in-Some.step c.loop-trace.invariant.valid
    taken.valid taken.taken

-- and it was permitted
pub push-requires : goal.push-requires
push-requires c =
    in_order c.loop-trace.drawing.drawing c.mend.new.drawing.drawing c.in-Some.step c.in_ok-mend.ensures.taken

-- the step comes last
pub loop-trace-preserved : goal.loop-trace-preserved
loop-trace-preserved c =
    let first = c.args.drawing.now.drawing in
    let last = c.mend.new.drawing.drawing in
    let taken = c.in_ok-mend.ensures in
    let leads = leads_on first c.loop-trace.drawing.drawing last c.loop-trace.trace c.in-Some.step
    c.loop-trace.invariant.leads taken.taken in
    record {
      leads = subst (λ (trace : List Step). LeadsBy first trace last) (sym c.in_ok-push.ensures.pushed) leads;
      indexed = taken.indexed;
      keyed = taken.keyed;
      valid = taken.valid;
      covered = taken.covered;
    }

-- and where no step is found no violation is left
pub returns-clause-settles : goal.returns-clause-settles
returns-clause-settles c =
    let e = c.loop-trace.drawing.drawing in
    let settled = subst (λ (found : Option Step). MatchOption found (HasViolation e → ⊥) (IsPermitted e)) c.in_default.is
    c.in_ok-step.ensures.found in
    settles_by c.args.drawing.now.drawing e c.loop-trace.trace c.loop-trace.invariant.leads settled
