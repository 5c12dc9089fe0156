-- This file shows that each side of each segment of a realm has a place beside it.
use Rattle.std.proofs.Common.{ℕ, ◌*◌, ◌<◌, List, map, length, sym, ap, subst, ◌∙◌, inl, inr}
use Rattle.grid_base.specs.Grid.{grid_side}
use Rattle.grid_base.specs.Segment.{GridSegment}
use Rattle.grid_base.specs.Sides.{Side}
use Rattle.grid_base.specs.Plane.{Place, Holds, IsBeside}
use Rattle.plane_cells.proofs.Sided.{IsSlanted}
use Rattle.plane_classes.proofs.Unsheared.{unsheared_place}
use Rattle.plane_cells.proofs.Walks.{Position}
use Rattle.plane_classes.specs.Shear.{sheared}
use Rattle.plane_cells.specs.Numbered.{numbered}
use Rattle.plane_cells.specs.Sheared.{AreOfRealm}
use Rattle.plane_cells.proofs.Lists.{same_or}
use Rattle.plane_cells.proofs.InSlabs.{AreWithin}
use Rattle.plane_cells.proofs.Beside.{alone}
use Rattle.plane_cells.proofs.ShearedRealm.{position, within, numbered_in, realm_below}
use Rattle.plane_cells.proofs.SomeBeside.{IsApart, some_beside, beside_unsheared}

pub apart_in : (B : List GridSegment) (n : ℕ) (seg : ℕ → GridSegment) (D i : ℕ) → Position B n seg → AreWithin n seg D → i < n
    → IsApart B D (seg i)
apart_in B n seg D i P w hi = record {
  slanted = P.slanted i hi;
  all_slanted = λ u c. let k = P.all u c in subst (λ (s : GridSegment). s.a.x < s.b.x) k.2 (P.slanted k.0 k.1);
  within = λ u c. let k = P.all u c in subst (λ (s : GridSegment). s.b.x < D) k.2 (w k.0 k.1);
  alone = λ u m c h held. let k = P.all u c in elim (same_or k.0 i) [
    | inl e ↦ sym k.2 ∙ ap seg e
    | inr d ↦ absurd (alone B n seg i k.0 m P hi k.1 d h (subst (λ (s : GridSegment). Holds s m) (sym k.2) held))
  ];
}

pub each_side : (B : List GridSegment) (i : ℕ) (d : Side) → AreOfRealm B → i < length B → IsSlanted d
    → (q : Place) × IsBeside B (numbered B i) d q
each_side B i d r hi di =
    let n = grid_side in
    let b = realm_below B r in
    let m = numbered_in B i hi in
    let q = some_beside (map (sheared n) B) (n * n) (sheared n (numbered B i)) d
    (apart_in (map (sheared n) B) (length B) (λ k. sheared n (numbered B k)) (n * n) i (position n B b) (within n B b) hi) di in (
      unsheared_place n q.0,
      beside_unsheared n B (numbered B i) d q.0 b.some b.order (λ s c. (r.on_grid s c).row)
          ((r.on_grid (numbered B i) m).order) (r.on_grid (numbered B i) m).row q.1,
    )
