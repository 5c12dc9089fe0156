-- This file shows that each class but the outer one has a side of some segment.
use Rattle.std.proofs.Common.{◌⊎◌, ℕ, zero, suc, ◌*◌, ◌<◌, ◌≤◌, true, List, [], map, length, refl, inl, inr, arith}
use Rattle.grid_base.specs.Grid.{grid_side}
use Rattle.grid_base.specs.Segment.{GridSegment}
use Rattle.grid_base.specs.Sides.{Left}
use Rattle.grid_base.specs.Plane.{Place, IsFree}
use Rattle.grid_base.proofs.Signs.{left_off}
use Rattle.linked_parts.proofs.LinkedNumbers.{linked_here}
use Rattle.plane_classes.specs.Classes.{IsOuter}
use Rattle.plane_classes.specs.Shear.{sheared, sheared_place}
use Rattle.plane_classes.proofs.ClassLemmas.{one_class_joined, one_class_back}
use Rattle.plane_classes.proofs.Shears.{free_sheared}
use Rattle.plane_classes.proofs.Unsheared.{class_unsheared}
use Rattle.plane_cells.specs.ClassNumbers.{IsBySome}
use Rattle.plane_cells.specs.Labels.{HasLabel}
use Rattle.plane_cells.specs.Numbered.{numbered}
use Rattle.plane_cells.specs.Sheared.{AreOfRealm}
use Rattle.plane_cells.specs.Steps.{Step, links}
use Rattle.plane_cells.specs.Walks.{None}
use Rattle.plane_cells.proofs.ColumnParity.{HasParity, parity_of_place}
use Rattle.plane_cells.proofs.EachSide.{each_side}
use Rattle.plane_cells.proofs.Numbered.{all_among, side_place, class_of_linked, outer_by_label}
use Rattle.plane_cells.proofs.ShearedRealm.{position}
use Rattle.plane_cells.proofs.ShearedSides.{IsRealmSweep, sweep_of, below_of, side_of_sweep, free_beside, outer_unsheared}

-- a place with the label of the gap over segment i is in one class with what lies beside it on its left
over_segment : (B : List GridSegment) (steps : List Step) (right : ℕ → ℕ) (i : ℕ) (q : Place) → AreOfRealm B
    → IsRealmSweep grid_side B steps right → IsFree B q → i < length B
    → HasLabel (λ j. sheared grid_side (numbered B j)) [] steps (sheared_place grid_side q) (suc i) → IsBySome B q
over_segment B steps right i q realm s free within has =
    let n = grid_side in
    let C = map (sheared n) B in
    let seg = λ (j : ℕ). sheared n (numbered B j) in
    let r = s.realm in
    let some = each_side B i Left realm within (inl refl) in
    let p = some.0 in
    let sweep = sweep_of n B steps right s in
    let near = side_place C (length B) seg (n * n) steps right i Left (sheared_place n p) sweep within (inl refl)
    (side_of_sweep n B i Left p r within some.1) in
    let linked = class_of_linked C (length B) seg (n * n) steps right (sheared_place n q) near.place (suc i) near.label sweep
    (free_sheared n B q r.order r.some free) near.free has near.has near.fits in
    let one = class_unsheared n B q p r.order (below_of n B r) r.some free (free_beside B (numbered B i) Left p some.1)
    (one_class_joined C (sheared_place n q) near.place (sheared_place n p) linked
    (one_class_back C (sheared_place n p) near.place near.class)) in
    (i, Left, p, record { within = within; sided = left_off; beside = some.1 }, one)

pub every_class : (B : List GridSegment) (steps : List Step) (right : ℕ → ℕ) (q : Place) → AreOfRealm B
    → IsRealmSweep grid_side B steps right → IsFree B q → IsOuter B q ⊎ IsBySome B q
every_class B steps right q realm s free = by hp.label hp.has hp.bounded
  where
    n : ℕ
    n = grid_side

    seg : ℕ → GridSegment
    seg j = sheared n (numbered B j)

    free_Q : IsFree (map (sheared n) B) (sheared_place n q)
    free_Q = free_sheared n B q s.realm.order s.realm.some free

    hp : HasParity (length B) seg (λ x. true) right [] steps (sheared_place n q)
    hp = parity_of_place (map (sheared n) B) (length B) seg (links steps) right (λ x. true) (sheared_place n q) (position n B s.realm) free_Q
        (λ x y l. refl) None [] steps s.walk (all_among steps (links steps) (λ y z m. m)) s.rights tt tt (linked_here (links steps) 0)

    by : (y : ℕ) → HasLabel seg [] steps (sheared_place n q) y → y ≤ length B → IsOuter B q ⊎ IsBySome B q
    by zero has bounded =
        inl (outer_unsheared n B q s.realm free (outer_by_label (map (sheared n) B) (length B) seg (n * n) steps right (sheared_place n q) 0
        (sweep_of n B steps right s) free_Q has (linked_here (links steps) 0)))
    by (suc i) has bounded = inr (over_segment B steps right i q realm s free (omega (arith, bounded)) has)
