-- This file shows that a segment that makes a realm with a border, and isn't of it, can be asked for.
use Rattle.std.proofs.Common.{◌≡◌, ℕ, suc, ◌<◌, List, ◌∷◌, map, length, refl, sym, subst, arith, inl}
use Rattle.grid_base.specs.Grid.{grid_side}
use Rattle.grid_base.specs.Point.{GridPoint}
use Rattle.grid_base.specs.Segment.{GridSegment}
use Rattle.grid_base.specs.Segment.{IsEnd}
use Rattle.plane_cells.specs.Order.{at_point}
use Rattle.plane_classes.specs.Shear.{sheared}
use Rattle.plane_cells.specs.Numbered.{numbered}
use Rattle.plane_cells.specs.Sheared.{sheared_number, AreOfRealm}
use Rattle.plane_cells.specs.Labels.{IsOther}
use Rattle.plane_cells.proofs.Vertical.{held_at}
use Rattle.plane_cells.proofs.AlongSegments.{spans_begin, zero_begin}
use Rattle.plane_cells.proofs.Beside.{alone}
use Rattle.plane_cells.proofs.ShearedRealm.{position, realm_below}
use Rattle.plane_cells.proofs.Inserts.{once_sheared}
use Rattle.plane_cells.proofs.VertexParts.{same_x}
use Rattle.plane_cells.proofs.Angles.{not_on_one_line}

not_first : (i : ℕ) → suc i ≡ 0 → ⊥
not_first i e = omega (arith, e)

pub other_of_realm : (B : List GridSegment) (t : GridSegment) → AreOfRealm (t ∷ B)
    → IsOther (length B) (sheared_number B) (sheared grid_side t)
other_of_realm B t r =
    let U = t ∷ B in
    let n = grid_side in
    let seg = λ (i : ℕ). sheared n (numbered U i) in
    let P = position n U (realm_below U r) in
    let first : 0 < length U = omega arith in
    record {
      slanted = P.slanted 0 first;
      off = λ i l c inside held. alone (map (sheared n) U) (length U) seg 0 (suc i) c P first (omega (arith, l)) (not_first i) inside held;
      begin = λ i l held.
          let u = sheared n t in
          let own = held_at u (at_point u.a) (omega arith) (P.slanted 0 first) (spans_begin u (P.slanted 0 first)) (zero_begin u) in
          let c = P.apart 0 (suc i) (at_point u.a) first (omega (arith, l)) (λ e. not_first i (sym e)) own held in
          subst (λ (p : GridPoint). IsEnd p (sheared_number B i)) (P.columns 0 0 c.0 u.a first first c.1 (inl refl) (same_x u.a c.0 c.3.0))
          c.2;
      fan = λ i l e z.
          not_on_one_line (map (sheared n) U) (length U) seg (suc i) 0 (sheared n t).a P
          (once_sheared U (suc i) 0 r (omega (arith, l)) first) (omega (arith, l)) first (not_first i) e refl z;
    }
