-- This file shows that each violation has a step that mends it, and so some step is permitted.
use Rattle.std.proofs.Common.{◌≡◌, ◌⊎◌, ◌↔◌, ◌/◌, ◌<◌, Bool, true, false, ◌&&◌, if◌then◌else◌, not, nat_lt, IsTrue}
use Rattle.std.proofs.Common.{Some, None, refl, sym, inl, inr, arith}
use Rattle.std.proofs.lemmas.Bool.Decides.{nat_tests}
use Rattle.grid_base.specs.Point.{GridPoint, IsBefore, point_at}
use Rattle.grid_base.specs.Segment.{GridSegment, IsSegmentBefore, is_diagonal}
use Rattle.grid_base.specs.Crossing.{Cross}
use Rattle.grid_base.specs.Places.{RationalPoint}
use Rattle.grid_base.specs.MeetPoint.{IsCell, crossing_of, is_centre, corner_on, rounded, meet_at}
use Rattle.grid_base.specs.Realm.Violation.{PointInside, TwoCross}
use Rattle.grid_base.specs.Drawing.{Drawing, HasViolation}
use Rattle.grid_base.specs.declared.kinds.Step.{Step}
use Rattle.grid_base.specs.declared.kinds.Step.TheVariants.{Split, Meet, Corner}
use Rattle.grid_base.proofs.Collinear.{same_segment}
use Rattle.grid_base.proofs.Crossings.{Cross-swap, cross_differ}
use Rattle.grid_base.proofs.Ends.{three_points}
use Rattle.grid_rational.specs.Meeting.{IsRising, IsCornerOf}
use Rattle.grid_rational.proofs.Crossings.{crossing_is_place}
use Rattle.grid_rational.proofs.Meetings.{corner_by, corner-swap}
use Rattle.segment_envelope.proofs.Roundings.{tie_is, centre_is}
use Rattle.hook_chain.specs.Mending.{IsPermitted, MendsCrossing}
use Rattle.chain_laws.proofs.Mendings.{mends_at, mends_corner, mends_swapped, mending_is_permitted}

-- ---- crossings
-- of two segments that cross one comes first
in_order : (t u : GridSegment) → Cross t u → IsSegmentBefore t u ⊎ IsSegmentBefore u t
in_order t u cross = elim (three_points t.a u.a) [
  | inl before ↦ inl (inl before)
  | inr (inl same) ↦ elim (three_points t.b u.b) [
    | inl before ↦ inl (inr (same, before))
    | inr (inl also) ↦ absurd (cross_differ t u cross (same_segment t u same also))
    | inr (inr after) ↦ inr (inr (sym same, after))
  ]
  | inr (inr after) ↦ inr (inl after)
]

-- the lower left corner of the cell round a centre
abbrev cell_of : RationalPoint → GridPoint
cell_of q = point_at (q.x / q.w) (q.y / q.w)

is_cell : (q : RationalPoint) → 0 < q.w → is_centre q ≡ true → IsCell q (cell_of q)
is_cell q real centre =
    let halves = centre_is q centre in
    let column = tie_is q.x q.w real halves.0 in
    let row = tie_is q.y q.w real halves.1 in
    (omega (arith, column), omega (arith, row))

-- what mends a crossing
record HasMending (t u : GridSegment) : Type 0 where
  step : Step
  mends : MendsCrossing t u step

-- two diagonals that cross at the centre of a cell, the one that rises first
by_corner : (t u : GridSegment) (z : GridPoint) (rises : Bool) → IsCornerOf t u z (not rises) → HasMending t u
by_corner t u z true corner = record { step = Corner t u; mends = mends_corner t u z corner }
by_corner t u z false corner =
    record { step = Corner u t; mends = mends_swapped t u (Corner u t) (mends_corner u t z (corner-swap t u z true corner)) }

rises_by : (t : GridSegment) → IsTrue (nat_lt t.a.y t.b.y) ↔ IsRising t
rises_by t = (λ e. grind (arith, nat_tests), λ e. grind (arith, nat_tests))

-- what the rule for the meet point gives: a point, or none where two diagonals cross at a centre
given : (t u : GridSegment) (q : RationalPoint)
    → ((x : GridPoint) × (meet_at t u q ≡ Some x))
    ⊎ ((is_centre q ≡ true) × (is_diagonal t ≡ true) × (is_diagonal u ≡ true))
given t u q = by_tests (is_centre q) (is_diagonal t) (is_diagonal u)
  where
    by_tests : (centre first second : Bool)
        → ((x : GridPoint) × ((if centre && first && second then None
        else if centre && first then Some (corner_on t q)
        else if centre && second then Some (corner_on u q)
        else Some (rounded q)) ≡ Some x))
        ⊎ ((centre ≡ true) × (first ≡ true) × (second ≡ true))
    by_tests true true true = inr (refl, refl, refl)
    by_tests true true false = inl (corner_on t q, refl)
    by_tests true false true = inl (corner_on u q, refl)
    by_tests true false false = inl (rounded q, refl)
    by_tests false first second = inl (rounded q, refl)

-- two pieces that cross, the lesser named first
in_order_mended : (t u : GridSegment) → IsBefore t.a t.b → IsBefore u.a u.b → Cross t u → IsSegmentBefore t u → HasMending t u
in_order_mended t u t_ordered u_ordered cross before = elim (given t u (crossing_of t u)) [
  | inl (x, at) ↦ record { step = Meet t u x; mends = mends_at t u x (λ other. before) (record { cross = cross; at = at }) }
  | inr (centre, first, second) ↦
      let q = crossing_of t u in
      let cell = is_cell q (crossing_is_place t u cross).first.real centre in
      let rises = nat_lt t.a.y t.b.y in
      by_corner t u (cell_of q) rises
      (corner_by t u (cell_of q) rises cross t_ordered u_ordered centre first second cell (rises_by t))
]

crossing_mended : (t u : GridSegment) → IsBefore t.a t.b → IsBefore u.a u.b → Cross t u → HasMending t u
crossing_mended t u t_ordered u_ordered cross = elim (in_order t u cross) [
  | inl before ↦ in_order_mended t u t_ordered u_ordered cross before
  | inr after ↦
      let other = in_order_mended u t u_ordered t_ordered (Cross-swap t u cross) after in
      record { step = other.step; mends = mends_swapped t u other.step other.mends }
]

-- ---- violations
-- a point inside a piece splits it, and two pieces that cross meet or are led round a corner
pub some_step : (d : Drawing) → HasViolation d → (step : Step) × IsPermitted d step
some_step d (PointInside p t point piece inside) =
    (Split p t, mending_is_permitted d (Split p t) inside (point, piece))
some_step d (TwoCross t u first second cross) =
    let mended = crossing_mended t u first.0 second.0 cross in
    (mended.step, mending_is_permitted d mended.step mended.mends.mending (mended.mends.parts d first second))
