use Rattle.std.proofs.Common.{◌≡◌, Bool, true, false, not, Option, Some, None, MatchOption, MatchBool}
use Rattle.std.specs.Option.{is_some}
use Rattle.grid_base.specs.Drawing.{Drawing, HasViolation}
use Rattle.grid_base.specs.declared.kinds.Step.{Step}
use Rattle.hook_chain.specs.Mending.{IsPermitted}
use Rattle.hook_chain.specs.Steps.{Permitted}
use Rattle.realm_insert.proofs.restoring.is_settled.Goals as goal

-- a step that may be taken shows a violation
told : (d : Drawing) (found : Option Step) (none : Bool) → is_some found ≡ not none
    → ((e : Drawing) (step : Step) → Permitted d step e → HasViolation d)
    → MatchOption found (HasViolation d → ⊥) (IsPermitted d) → MatchBool none (HasViolation d → ⊥) (HasViolation d)
told d None true says there is = is
told d None false says there is = absurd cc
told d (Some step) true says there is = absurd cc
told d (Some step) false says there is = there is.0 step is.1

pub returns : goal.returns
returns c =
    told c.args.drawing.now.drawing c.in_ok-found.found c.is_none.result c.is_none.ensures
    (c.step_mends.ensures.only_there c.args.drawing.now.drawing) c.in_ok-found.ensures.found
