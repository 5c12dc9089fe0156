-- This file shows that some segment has the outer class on its right.
use Rattle.std.proofs.Common.{◌≡◌, ℕ, ◌<◌, List, [], ◌∷◌, ◌++◌, length, refl, sym, ap, ◌∙◌, inl, inr}
use Rattle.grid_base.specs.Grid.{grid_side}
use Rattle.grid_base.specs.Segment.{GridSegment}
use Rattle.grid_base.specs.Sides.{Right}
use Rattle.plane_classes.specs.Shear.{sheared}
use Rattle.std.proofs.Common.{map}
use Rattle.plane_cells.specs.Steps.{Step, In, label_over, HaveRights, HasRights}
use Rattle.plane_cells.specs.Walks.{None, Lies, Across, Ahead, Past, Walk}
use Rattle.plane_cells.proofs.Walks.{Position}
use Rattle.plane_cells.specs.Sheared.{sheared_number, AreOfRealm}
use Rattle.plane_cells.specs.ClassNumbers.{number_at, AreClassNumbers}
use Rattle.plane_cells.specs.declared.classes.SideClasses.{SideClasses}
use Rattle.plane_cells.proofs.Lists.{each_at}
use Rattle.plane_cells.proofs.Complete.{step_numbers}
use Rattle.plane_cells.proofs.EveryEnd.{all_begin, all_end}
use Rattle.plane_cells.proofs.ShearedRealm.{position}
use Rattle.class_borders.proofs.EachSwept.{HasSweep, has_sweep}
use Rattle.class_borders.proofs.ClassTurns.{number_of, under_number}

-- a segment whose label on the right is 0
abbrev HasFirst : ℕ → (ℕ → ℕ) → Type 0
HasFirst n right = (i : ℕ) × (i < n) × (right i ≡ 0)

empty_left : (A B : List ℕ) → [] ≡ A ++ B → A ≡ []
empty_left [] B e = refl
empty_left (i ∷ A) B e = cc

empty_right : (A B : List ℕ) → [] ≡ A ++ B → B ≡ []
empty_right [] B e = sym e
empty_right (i ∷ A) B e = cc

none_lies : (seg : ℕ → GridSegment) (i : ℕ) → Lies seg None None [] i → ⊥
none_lies seg i (Across m) = m
none_lies seg i (Ahead m) = m
none_lies seg i (Past m) = m

none_in : (i : ℕ) (E : List ℕ) → E ≡ [] → In i E → ⊥
none_in i [] e m = m
none_in i (j ∷ E) e m = cc

first_right : (n : ℕ) (right : ℕ → ℕ) (d : ℕ) (N : List ℕ) (i : ℕ) → In i N → d ≡ 0 → HasRights right d N
    → ((j : ℕ) → In j N → j < n) → HasFirst n right
first_right n right d [] i m e h b = absurd m
first_right n right d (j ∷ N) i m e h b = (j, b j (inl refl), h.0 ∙ e)

first_step : (B : List GridSegment) (n : ℕ) (seg : ℕ → GridSegment) (right : ℕ → ℕ) (steps : List Step)
    → Position B n seg → 0 < n → Walk n seg None [] steps → HaveRights right steps → HasFirst n right
first_step B n seg right [] P some w h = absurd (none_lies seg 0 (w.others 0 some))
first_step B n seg right (k ∷ steps) P some w h =
    let u = w.1.vertex in
    let below = empty_left k.below (k.ends ++ k.above) w.0 in
    let ends = empty_left k.ends k.above (sym (empty_right k.below (k.ends ++ k.above) w.0)) in
    let numbers = step_numbers n seg None [] k steps w in
    let d = ap (λ (l : List ℕ). label_over 0 l) below in
    elim u.2 [
      | inl e ↦ first_right n right (label_over 0 k.below) k.begins u.0
          (all_begin B n seg None [] k steps u.0 P w u.1 (sym e)) d h.0 (λ j m. each_at (λ i. i < n) k.begins j numbers.begins m)
      | inr e ↦ absurd (none_in u.0 k.ends ends (all_end B n seg None [] k steps u.0 P w u.1 (sym e)))
    ]

-- where there are segments, the outer class is on the right of one
pub some_outer : (B : List GridSegment) (N : List SideClasses) → AreOfRealm B → AreClassNumbers B N → 0 < length B
    → (i : ℕ) × (i < length B) × (number_at N i Right ≡ 0)
some_outer B N realm c some = by (has_sweep B realm)
  where
    by : HasSweep B → (i : ℕ) × (i < length B) × (number_at N i Right ≡ 0)
    by h =
        let first = first_step (map (sheared grid_side) B) (length B) (sheared_number B) h.right h.steps
        (position grid_side B h.sweep.realm) some h.sweep.walk h.sweep.rights in
        (first.0, first.1, sym (under_number B N h c first.0 first.1) ∙ ap (number_of N) first.2)
