-- This file shows where a trace fails that is taken step by step.
use Rattle.std.proofs.Common.{Option, Some, None, IsSomeAnd, ◌≡◌, ℕ, suc, ◌+◌, ◌<◌, ◌≤◌, List, []}
use Rattle.std.proofs.Common.{◌∷◌, ◌++◌, length, get_or, take, drop, refl, sym, ap, subst, ◌∙◌, arith}
use Rattle.std.proofs.lemmas.List.{take_more, take_all, drop_more, take-append-drop, length-take-le, append-nil}
use Rattle.grid_base.specs.Drawing.{Drawing, HasViolation}
use Rattle.grid_base.specs.declared.kinds.Step.{Step}
use Rattle.hook_chain.specs.Mending.{IsPermitted}
use Rattle.hook_chain.specs.Steps.{Permitted, Settles}
use Rattle.chain_laws.proofs.StepOutcomes.{no_violation_no_step, permitted_is_one}
use Rattle.realm_insert.specs.Misfits.{LeadsBy, IsStuck, Misfits}
use Rattle.realm_insert.proofs.StepsTaken.{leads_on}

-- what there is has Q too where it has P
pub has_also : {X : Type 0} (P Q : X → Type 0) (found : Option X) → ((x : X) → P x → Q x) → IsSomeAnd found P → IsSomeAnd found Q
has_also P Q None also none = none
has_also P Q (Some x) also has = also x has

-- ---- step by step
-- one step of the trace more
pub leads_next : (d e f : Drawing) (trace : List Step) (i : ℕ) (step : Step) → i < length trace → step ≡ get_or trace i step
    → LeadsBy d (take i trace) e → Permitted e step f → LeadsBy d (take (i + 1) trace) f
leads_next d e f trace i step within is leads permitted =
    let longer : take i trace ++ step ∷ [] ≡ take (i + 1) trace =
    ap (λ (s : Step). take i trace ++ s ∷ []) is ∙ sym (take_more trace i step within) in
    subst (λ (steps : List Step). LeadsBy d steps f) longer (leads_on d e f (take i trace) step leads permitted)

-- a step that isn't permitted where those before it lead
pub misfits_at : (d e : Drawing) (trace : List Step) (i : ℕ) (step : Step) → i < length trace → step ≡ get_or trace i step
    → LeadsBy d (take i trace) e → (IsPermitted e step → ⊥) → Misfits d trace (i + 1)
misfits_at d e trace i step within is leads not_permitted = record {
  before = take i trace;
  left = drop i trace;
  in_order = sym (take-append-drop i trace);
  number_is = let many = length-take-le i trace (omega arith) in omega (arith, many);
  reached = e;
  leads = leads;
  stuck =
      let front : step ∷ drop (i + 1) trace ≡ drop i trace =
      ap (λ (s : Step). s ∷ drop (i + 1) trace) is ∙ sym (drop_more trace i step within) in
      subst (IsStuck e) front not_permitted;
}

-- all steps of a trace
pub leads_whole : (d e : Drawing) (trace : List Step) (i : ℕ) → length trace ≤ i → LeadsBy d (take i trace) e → LeadsBy d trace e
leads_whole d e trace i past leads = subst (λ (steps : List Step). LeadsBy d steps e) (take_all i trace past) leads

-- a violation that is left by all steps
pub misfits_past : (d e : Drawing) (trace : List Step) → LeadsBy d trace e → HasViolation e → Misfits d trace (length trace + 1)
misfits_past d e trace leads violation = record {
  before = trace;
  left = [];
  in_order = sym (append-nil trace);
  number_is = refl;
  reached = e;
  leads = leads;
  stuck = violation;
}

pub permitted_at_violation : (d : Drawing) (step : Step) → IsPermitted d step → HasViolation d
permitted_at_violation d step (e, permitted) = no_violation_no_step d e step permitted

-- ---- one outcome
-- two drawings to which a trace settles one are the same
pub settles_is_one : (d e f : Drawing) (trace : List Step) → Settles d trace e → Settles d trace f → e ≡ f
settles_is_one d e f [] first second = sym first.0 ∙ second.0
settles_is_one d e f (step ∷ trace) (between, permitted, rest) (other, also, more) =
    let same = permitted_is_one d between other step permitted also in
    settles_is_one other e f trace (subst (λ (g : Drawing). Settles g trace e) same rest) more

-- steps that settle stop nowhere
settles_whole : (d e f : Drawing) (before left : List Step) → Settles d (before ++ left) e → LeadsBy d before f → IsStuck f left → ⊥
settles_whole d e f [] [] settles leads violation = settles.1 (subst HasViolation (sym leads) violation)
settles_whole d e f [] (step ∷ left) (between, permitted, rest) leads stuck =
    stuck (between, subst (λ (g : Drawing). Permitted g step between) leads permitted)
settles_whole d e f (step ∷ before) left (between, permitted, rest) (other, also, more) stuck =
    let same = permitted_is_one d other between step also permitted in
    settles_whole between e f before left rest (subst (λ (g : Drawing). LeadsBy g before f) same more) stuck

pub settled_fits : (d e : Drawing) (trace : List Step) (number : ℕ) → Settles d trace e → Misfits d trace number → ⊥
settled_fits d e trace number settles fails =
    settles_whole d e fails.reached fails.before fails.left (subst (λ (steps : List Step). Settles d steps e) fails.in_order settles)
    fails.leads fails.stuck

-- two places at which one trace stops are the same
one_place : (d e f : Drawing) (before left other more : List Step) → before ++ left ≡ other ++ more → LeadsBy d before e
    → IsStuck e left → LeadsBy d other f → IsStuck f more → length before ≡ length other
one_place d e f [] left [] more same leads stuck also_leads also_stuck = refl
one_place d e f [] left (step ∷ other) more same leads stuck (between, permitted, rest) also_stuck =
    absurd ((subst (IsStuck e) same stuck) (between, subst (λ (h : Drawing). Permitted h step between) leads permitted))
one_place d e f (step ∷ before) left [] more same (between, permitted, rest) stuck also_leads also_stuck =
    absurd ((subst (IsStuck f) (sym same) also_stuck)
    (between, subst (λ (h : Drawing). Permitted h step between) also_leads permitted))
one_place d e f (step ∷ before) left (next ∷ other) more same (between, permitted, rest) stuck (place, also, further) also_stuck =
    let first : step ≡ next = cc in
    let later : before ++ left ≡ other ++ more = cc in
    let one = permitted_is_one d between place step permitted (subst (λ (s : Step). Permitted d s place) (sym first) also) in
    ap suc (one_place place e f before left other more later
    (subst (λ (g : Drawing). LeadsBy g before e) one rest) stuck further also_stuck)

pub one_number : (d : Drawing) (trace : List Step) (m n : ℕ) → Misfits d trace m → Misfits d trace n → m ≡ n
one_number d trace m n first second =
    let same = one_place d first.reached second.reached first.before first.left second.before second.left
    (sym first.in_order ∙ second.in_order) first.leads first.stuck second.leads second.stuck in
    omega (arith, same, first.number_is, second.number_is)
