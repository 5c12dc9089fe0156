-- This file shows what steps make of a drawing when they are taken one after the other.
use Rattle.std.proofs.Common.{◌≡◌, ℕ, ◌-◌, ◌<◌, ◌≤◌, List, [], ◌∷◌, ◌++◌, refl, sym, ap, subst, ◌∙◌, arith}
use Rattle.grid_base.specs.Drawing.{Drawing, HasViolation}
use Rattle.grid_base.specs.declared.kinds.Step.{Step}
use Rattle.grid_base.specs.declared.kinds.Step.TheVariants.{Split, Meet, Corner}
use Rattle.record_codec.specs.Traces.{IsOrdered}
use Rattle.hook_chain.specs.Steps.{Permitted, Settles}
use Rattle.hook_chain.specs.StandingChains.{AllValid}
use Rattle.realm_drawing.specs.Keyed.{KeyedDrawing, AreKeyed}
use Rattle.hook_chain.specs.Measure.{links_of, most_links_of}
use Rattle.chain_laws.proofs.StepOutcomes.{ids_stay, no_violation_no_step}
use Rattle.chain_laws.proofs.StepPaths.{step_paths}
use Rattle.chain_laws.proofs.StepsAdd.{step_adds_link, step_keeps_most, links_are_few}
use Rattle.realm_index.specs.Index.{Entries}
use Rattle.realm_insert.specs.Kept.{IsIndexed, IsAtRest}
use Rattle.realm_insert.specs.State.{HasIdsBelow}
use Rattle.realm_insert.specs.Misfits.{LeadsBy}

-- where a step may be taken the lesser of two pieces that meet comes first
pub in_order : (d e : Drawing) (step : Step) → Permitted d step e → IsOrdered step
in_order d e (Split p t) permitted = tt
in_order d e (Meet t u x) permitted = permitted.2
in_order d e (Corner t u) permitted = tt

-- one more step may come at the end
pub leads_on : (d e f : Drawing) (trace : List Step) (step : Step) → LeadsBy d trace e → Permitted e step f
    → LeadsBy d (trace ++ step ∷ []) f
leads_on d e f [] step leads permitted =
    (f, subst (λ (g : Drawing). Permitted g step f) (sym leads) permitted, refl)
leads_on d e f (first ∷ trace) step leads permitted =
    (leads.0, leads.1, leads_on leads.0 e f trace step leads.2 permitted)

-- steps that lead to a drawing without a violation settle
pub settles_by : (d e : Drawing) (trace : List Step) → LeadsBy d trace e → (HasViolation e → ⊥) → Settles d trace e
settles_by d e [] leads settled = (leads, λ violation. settled (subst HasViolation leads violation))
settles_by d e (step ∷ trace) leads settled =
    (leads.0, leads.1, settles_by leads.0 e trace leads.2 settled)

-- what is settled has no violation
no_violation_left : (d e : Drawing) (trace : List Step) → Settles d trace e → HasViolation e → ⊥
no_violation_left d e [] settles violation = settles.1 (subst HasViolation (sym settles.0) violation)
no_violation_left d e (step ∷ trace) settles violation = no_violation_left settles.0 e trace settles.2 violation

-- and so it is at rest where its chains, its keys and its index are kept
pub rests_after : (d : Drawing) (e : KeyedDrawing) (index : Entries) (trace : List Step) → Settles d trace e.drawing
    → AllValid e.drawing → AreKeyed e → IsIndexed e index → IsAtRest e index
rests_after d e index trace settles valid keyed indexed = record {
  settled = no_violation_left d e.drawing trace settles;
  valid = valid;
  keyed = keyed;
  indexed = indexed;
}

-- no step is permitted where there is no violation, so such a drawing stays as it is
pub untouched : (d e : Drawing) (trace : List Step) → Settles d trace e → (HasViolation d → ⊥) → (trace ≡ []) × (e ≡ d)
untouched d e [] settles settled = (refl, sym settles.0)
untouched d e (step ∷ trace) settles settled =
    absurd (settled (no_violation_no_step d settles.0 step settles.1))

-- ids stay as they are
pub ids_below : (d e : Drawing) (trace : List Step) (n : ℕ) → Settles d trace e → HasIdsBelow n d → HasIdsBelow n e
ids_below d e [] n settles below = subst (HasIdsBelow n) settles.0 below
ids_below d e (step ∷ trace) n settles below =
    ids_below settles.0 e trace n settles.2 (ids_stay (λ id. (1 ≤ id) × (id < n)) d settles.0 step settles.1 below)

-- and so do the explicit points
pub points_kept : (d e : Drawing) (trace : List Step) → Settles d trace e → e.points ≡ d.points
points_kept d e [] settles = ap (λ (g : Drawing). g.points) (sym settles.0)
points_kept d e (step ∷ trace) settles =
    points_kept settles.0 e trace settles.2 ∙ ap (λ (g : Drawing). g.points) (step_paths d settles.0 step settles.1).leads

-- each step leaves room for fewer links
pub room_shrinks : (d e : Drawing) (step : Step) → AllValid d → AllValid e → Permitted d step e
    → most_links_of e - links_of e < most_links_of d - links_of d
room_shrinks d e step valid valid_after permitted =
    omega (
      arith,
      step_adds_link d e step valid permitted,
      step_keeps_most d e step valid permitted,
      links_are_few e valid_after,
    )
