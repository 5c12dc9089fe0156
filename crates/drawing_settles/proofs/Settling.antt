-- This file shows that from each drawing some trace settles, and that each trace is short.
use Rattle.std.proofs.Common.{ℕ, zero, suc, ◌+◌, ◌<◌, ◌≤◌, List, [], ◌∷◌, length, refl, subst, inl, inr, arith}
use Rattle.grid_base.specs.Drawing.{Drawing, HasViolation}
use Rattle.grid_base.specs.declared.kinds.Step.{Step}
use Rattle.hook_chain.specs.Steps.{Permitted, Settles}
use Rattle.hook_chain.specs.StandingChains.{AllValid}
use Rattle.hook_chain.specs.Measure.{links_of, most_links_of}
use Rattle.chain_laws.proofs.StepsAdd.{step_adds_link, step_keeps_most, links_are_few}
use Rattle.chain_laws.proofs.StepsKeep.{step_keeps_chains}
use Rattle.drawing_settles.proofs.CrossingSteps.{some_step}
use Rattle.drawing_settles.proofs.Violations.{violated_or_not}

-- a step that may be taken, and what it leads to
record HasNext (d : Drawing) : Type 0 where
  step : Step
  next : Drawing
  permitted : Permitted d step next
  valid : AllValid next
  more : links_of d < links_of next
  few : links_of next ≤ most_links_of d

has_next : (d : Drawing) → AllValid d → HasViolation d → HasNext d
has_next d valid violated =
    let (step, (next, permitted)) = some_step d violated in
    let after = step_keeps_chains d next step valid permitted in
    record {
      step = step;
      next = next;
      permitted = permitted;
      valid = after;
      more = step_adds_link d next step valid permitted;
      few = omega (arith, step_keeps_most d next step valid permitted, links_are_few next after);
    }

-- as many steps may be taken as links are left, and while there is a violation one can be
within : (room : ℕ) (d : Drawing) → AllValid d → most_links_of d ≤ links_of d + room
    → (trace : List Step) × (e : Drawing) × Settles d trace e
within zero d valid left = elim (violated_or_not d) [
  | inr settled ↦ ([], d, (refl, settled))
  | inl violated ↦ let on = has_next d valid violated in absurd (omega (arith, left, on.more, on.few))
]
within (suc room) d valid left = elim (violated_or_not d) [
  | inr settled ↦ ([], d, (refl, settled))
  | inl violated ↦
      let on = has_next d valid violated in
      let same = step_keeps_most d on.next on.step valid on.permitted in
      let (trace, e, settles) = within room on.next on.valid (omega (arith, left, on.more, same)) in
      (on.step ∷ trace, e, (on.next, on.permitted, settles))
]

pub some_trace : (d : Drawing) → AllValid d → (trace : List Step) × (e : Drawing) × Settles d trace e
some_trace d valid = within (most_links_of d) d valid (omega arith)

-- the chains that are left may stand
pub valid_after : (d e : Drawing) (trace : List Step) → AllValid d → Settles d trace e → AllValid e
valid_after d e [] valid settles = subst AllValid settles.0 valid
valid_after d e (step ∷ trace) valid settles =
    valid_after settles.0 e trace (step_keeps_chains d settles.0 step valid settles.1) settles.2

-- each step takes one of the links that are left
pub short : (d e : Drawing) (trace : List Step) → AllValid d → Settles d trace e → length trace + links_of d ≤ most_links_of d
short d e [] valid settles = let few = links_are_few d valid in omega arith
short d e (step ∷ trace) valid settles =
    let next = settles.0 in
    let rest = short next e trace (step_keeps_chains d next step valid settles.1) settles.2 in
    let more = step_adds_link d next step valid settles.1 in
    let same = step_keeps_most d next step valid settles.1 in
    omega (arith, rest, more, same)
