-- This file shows what holds where a change is closed, and that changes and steps are counted.
use Rattle.std.proofs.Common.{◌≡◌, ◌⊎◌, ℕ, ◌+◌, ◌≤◌, ◌^◌, min, Bool, IsTrue, cond, List, [], ◌∷◌, map}
use Rattle.std.proofs.Common.{refl, sym, ap, subst, ◌∙◌, inl, inr, arith}
use Rattle.std.specs.List.{count_by}
use Rattle.std.proofs.lemmas.List.Sums.{sum_by-cons}
use Rattle.grid_base.specs.Drawing.{HasViolation, IsDrawnRealm}
use Rattle.grid_base.specs.declared.kinds.Step.{Step}
use Rattle.grid_base.proofs.RealmLaw.{drawn_realm_by}
use Rattle.hook_chain.specs.Steps.{Settles}
use Rattle.realm_audit.specs.Audits.{Audit, first_audit, TakesPoints, LineHolds, Runs}
use Rattle.realm_audit.specs.Facts.{IsClosing, is_change, is_step}
use Rattle.realm_audit.specs.declared.item.Item.{Item}
use Rattle.realm_audit.specs.declared.item.Item.TheVariants.{Point, Unpoint, Original, Change, Remove, Segment, End}
use Rattle.realm_audit.specs.declared.item.Item.TheVariants as items
use Rattle.realm_audit.specs.declared.phase.Phase.{Phase}
use Rattle.realm_audit.specs.declared.phase.Phase.TheVariants.{Opening, Placing, Stepping}

-- ---- where a change is closed
-- there is no violation there, and the drawing stays
pub closing_settled : (old new : Audit) (item : Item) → IsClosing item → LineHolds old item new
    → (HasViolation old.drawing → ⊥) × (old.drawing ≡ new.drawing)
closing_settled old new item (inl change) held =
    let begins = subst (λ (i : Item). LineHolds old i new) change held in
    (begins.1, sym (ap (λ (a : Audit). a.drawing) begins.2))
closing_settled old new item (inr end) held =
    let ends = subst (λ (i : Item). LineHolds old i new) end held in
    (ends.1, sym (ap (λ (a : Audit). a.drawing) ends.2))

pub closing_realm : (old new : Audit) (item : Item) → IsClosing item → LineHolds old item new → IsDrawnRealm new.drawing
closing_realm old new item closing held =
    let settled = closing_settled old new item closing held in
    subst IsDrawnRealm settled.1 (drawn_realm_by old.drawing settled.0)

-- the steps before it settle what they began with
pub steps_settle : (old between new : Audit) (trace : List Step) (item : Item) → IsClosing item
    → Runs old (map items.Step trace) between → LineHolds between item new → Settles old.drawing trace new.drawing
steps_settle old between new [] item closing run held =
    let settled = closing_settled between new item closing held in (
      ap (λ (a : Audit). a.drawing) run ∙ settled.1,
      subst (λ (a : Audit). HasViolation a.drawing → ⊥) (sym run) settled.0,
    )
steps_settle old between new (step ∷ trace) item closing (next, taken, rest) held =
    let settles = steps_settle next between new trace item closing rest held in
    (taken.1, taken.2, subst (λ (a : Audit). Settles a.drawing trace new.drawing) taken.3 settles)

-- behind a step stands no line but one that may stand there
no_more_points : (phase : Phase) → phase ≡ Stepping → TakesPoints phase → ⊥
no_more_points phase stepping (inl opening) = cc
no_more_points phase stepping (inr placing) = cc

not_opening : (phase : Phase) → phase ≡ Stepping → phase ≡ Opening → ⊥
not_opening phase stepping opening = cc

not_placing : (phase : Phase) → phase ≡ Stepping → phase ≡ Placing → ⊥
not_placing phase stepping placing = cc

pub steps_come_last : (old between new : Audit) (step : Step) (item : Item) → LineHolds old (items.Step step) between
    → LineHolds between item new → IsClosing item ⊎ IsTrue (is_step item)
steps_come_last old between new step item taken held = by_item item held
  where
    stepping : between.phase ≡ Stepping
    stepping = ap (λ (a : Audit). a.phase) taken.3

    by_item : (item : Item) → LineHolds between item new → IsClosing item ⊎ IsTrue (is_step item)
    by_item (Point p) held = absurd (no_more_points between.phase stepping held.0)
    by_item (Unpoint p) held = absurd (not_placing between.phase stepping held.0)
    by_item (Original id chain) held = absurd (not_opening between.phase stepping held.0)
    by_item Change held = inl (inl refl)
    by_item (Remove id) held = absurd (not_placing between.phase stepping held.0)
    by_item (Segment id p q) held = absurd (not_placing between.phase stepping held.0)
    by_item (items.Step other) held = inr refl
    by_item End held = inl (inr refl)

-- ---- counts
count_is : {X : Type 0} (p : X → Bool) (x : X) (xs : List X) → count_by p (x ∷ xs) ≡ cond (p x) 1 0 + count_by p xs
count_is p x xs = sum_by-cons (λ y. cond (p y) 1 0) x xs

-- so many, up to 2^63
abbrev up_to : ℕ → ℕ
up_to n = min n (2 ^ 63)

-- the count of an audit goes on by one where the test of an item holds
abbrev GoesOn : (Audit → ℕ) → (Item → Bool) → Type 0
GoesOn count test =
    (old new : Audit) (item : Item) → count old ≤ 2 ^ 63 → LineHolds old item new
    → count new ≡ up_to (count old + cond (test item) 1 0)

run_counts : (count : Audit → ℕ) (test : Item → Bool) → GoesOn count test → (old new : Audit) (list : List Item)
    → count old ≤ 2 ^ 63 → Runs old list new → count new ≡ up_to (count old + count_by test list)
run_counts count test goes old new [] within run = ap count (sym run) ∙ omega (arith, within)
run_counts count test goes old new (item ∷ list) within (between, held, rest) =
    let first = goes old between item within held in
    let later = run_counts count test goes between new list (omega (arith, first)) rest in
    omega (arith, first, later, count_is test item list)

line_counts_changes : GoesOn (λ a. a.changes) is_change
line_counts_changes old new (Point p) within held = ap (λ (a : Audit). a.changes) held.4 ∙ omega (arith, within)
line_counts_changes old new (Unpoint p) within held = ap (λ (a : Audit). a.changes) held.4 ∙ omega (arith, within)
line_counts_changes old new (Original id chain) within held = ap (λ (a : Audit). a.changes) held.4 ∙ omega (arith, within)
line_counts_changes old new Change within held = ap (λ (a : Audit). a.changes) held.2
line_counts_changes old new (Remove id) within held = ap (λ (a : Audit). a.changes) held.2 ∙ omega (arith, within)
line_counts_changes old new (Segment id p q) within held = ap (λ (a : Audit). a.changes) held.3 ∙ omega (arith, within)
line_counts_changes old new (items.Step step) within held = ap (λ (a : Audit). a.changes) held.3 ∙ omega (arith, within)
line_counts_changes old new End within held = ap (λ (a : Audit). a.changes) held.2 ∙ omega (arith, within)

pub run_counts_changes : (list : List Item) (audit : Audit) → Runs first_audit list audit
    → audit.changes ≡ min (count_by is_change list) (2 ^ 63)
run_counts_changes list audit run =
    run_counts (λ a. a.changes) is_change line_counts_changes first_audit audit list (omega arith) run ∙ omega arith

line_counts_steps : GoesOn (λ a. a.steps) is_step
line_counts_steps old new (Point p) within held = ap (λ (a : Audit). a.steps) held.4 ∙ omega (arith, within)
line_counts_steps old new (Unpoint p) within held = ap (λ (a : Audit). a.steps) held.4 ∙ omega (arith, within)
line_counts_steps old new (Original id chain) within held = ap (λ (a : Audit). a.steps) held.4 ∙ omega (arith, within)
line_counts_steps old new Change within held = ap (λ (a : Audit). a.steps) held.2 ∙ omega (arith, within)
line_counts_steps old new (Remove id) within held = ap (λ (a : Audit). a.steps) held.2 ∙ omega (arith, within)
line_counts_steps old new (Segment id p q) within held = ap (λ (a : Audit). a.steps) held.3 ∙ omega (arith, within)
line_counts_steps old new (items.Step step) within held = ap (λ (a : Audit). a.steps) held.3
line_counts_steps old new End within held = ap (λ (a : Audit). a.steps) held.2 ∙ omega (arith, within)

pub run_counts_steps : (list : List Item) (audit : Audit) → Runs first_audit list audit
    → audit.steps ≡ min (count_by is_step list) (2 ^ 63)
run_counts_steps list audit run =
    run_counts (λ a. a.steps) is_step line_counts_steps first_audit audit list (omega arith) run ∙ omega arith
