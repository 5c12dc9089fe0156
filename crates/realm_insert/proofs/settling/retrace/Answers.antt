use Rattle.std.proofs.Common.{◌≡◌, ◌+◌, ◌≤◌, ◌++◌, ◌∷◌, [], take, Option, MatchOption, List, length, sym, ap, subst, ◌∙◌, arith, rules}
use Rattle.std.proofs.lemmas.List.{take_more, take_all}
use Rattle.grid_base.specs.Drawing.{HasViolation}
use Rattle.grid_base.specs.declared.kinds.Step.{Step}
use Rattle.hook_chain.specs.Mending.{IsPermitted}
use Rattle.hook_chain.specs.Steps.{Settles}
use Rattle.realm_insert.specs.Misfits.{Misfits}
use Rattle.realm_insert.proofs.FailedTraces.{leads_next, leads_whole, misfits_at, misfits_past, permitted_at_violation}
use Rattle.realm_insert.proofs.StepsTaken.{in_order, settles_by}
use Rattle.realm_insert.proofs.settling.retrace.Goals as goal

-- the steps before it lead to where it isn't permitted
pub returns-in-Err-NotPermitted-clause-mismatch : goal.returns-in-Err-NotPermitted-clause-mismatch
returns-in-Err-NotPermitted-clause-mismatch c = λ number same.
    let d = c.args.drawing.now.drawing in
    let steps = c.args.steps.now in
    let i = c.loop-i.i in
    let at : i + 1 ≡ number = cc in
    let forbidden = c.take.ensures.not_permitted (first_of (search rules, cc)) in
    subst (Misfits d steps) at
    (misfits_at d c.loop-i.drawing.drawing steps i c.index-steps-i.result c.loop-i-test.true c.index-steps-i.is
    c.loop-i.invariant.leads forbidden)

-- it was permitted
pub push-requires : goal.push-requires
push-requires c = in_order c.loop-i.drawing.drawing c.take.new.drawing.drawing c.index-steps-i.result c.in-Ok.ensures.taken

-- one step more
pub loop-i-preserved : goal.loop-i-preserved
loop-i-preserved c =
    let done = c.in-Ok.ensures in
    record {
      built =
          let step = c.index-steps-i.result in
          c.in_ok-push-in-Ok.ensures.pushed
          ∙ ap (λ (trace : List Step). trace ++ step ∷ []) c.loop-i.invariant.built
          ∙ ap (λ (s : Step). take c.loop-i.i c.args.steps.now ++ s ∷ []) c.index-steps-i.is
          ∙ sym (take_more c.args.steps.now c.loop-i.i step c.loop-i-test.true);
      leads = leads_next c.args.drawing.now.drawing c.loop-i.drawing.drawing c.take.new.drawing.drawing c.args.steps.now c.loop-i.i
          c.index-steps-i.result c.loop-i-test.true c.index-steps-i.is c.loop-i.invariant.leads done.taken;
      indexed = done.indexed;
      keyed = done.keyed;
      valid = done.valid;
      covered = done.covered;
    }

-- where nothing is found after the last step no violation is left
pub returns-in-None-clause-settles : goal.returns-in-None-clause-settles
returns-in-None-clause-settles c =
    let d = c.args.drawing.now.drawing in
    let e = c.loop-i.drawing.drawing in
    let steps = c.args.steps.now in
    let settled = subst (λ (found : Option Step). MatchOption found (HasViolation e → ⊥) (IsPermitted e)) c.in-None.is
    c.in_ok-next_step.ensures.found in
    let past : length steps ≤ c.loop-i.i = omega (arith, c.loop-i-test.false) in
    let whole = c.loop-i.invariant.built ∙ take_all c.loop-i.i steps past in
    subst (λ (trace : List Step). Settles d trace e) (sym whole)
    (settles_by d e steps (leads_whole d e steps c.loop-i.i past c.loop-i.invariant.leads) settled)

-- the trace has all of them
pub returns-in-None-clause-same : goal.returns-in-None-clause-same
returns-in-None-clause-same c =
    c.loop-i.invariant.built ∙ take_all c.loop-i.i c.args.steps.now (omega (arith, c.loop-i-test.false))

-- and what is found mends one
pub returns-clause-mismatch : goal.returns-clause-mismatch
returns-clause-mismatch c = λ number same.
    let d = c.args.drawing.now.drawing in
    let e = c.loop-i.drawing.drawing in
    let steps = c.args.steps.now in
    let at : length steps + 1 ≡ number = cc in
    let permitted = subst (λ (found : Option Step). MatchOption found (HasViolation e → ⊥) (IsPermitted e)) c.in-Some.is
    c.in_ok-next_step.ensures.found in
    let leads = leads_whole d e steps c.loop-i.i (omega (arith, c.loop-i-test.false)) c.loop-i.invariant.leads in
    subst (Misfits d steps) at (misfits_past d e steps leads (permitted_at_violation e c.in-Some.field-0 permitted))
