-- That a grid point on a close piece is less than a step from the original.
use Rattle.std.proofs.Common.{◌≡◌, ◌⊎◌, ℕ, ◌+◌, ◌-◌, ◌*◌, ◌<◌, ◌≤◌, max, unsigned_abs, Bool, true, false, refl, ap, arith, inl, inr}
use Rattle.grid_base.specs.Point.{GridPoint, point_at, gap, IsBefore, IsFromTo, InBox}
use Rattle.grid_base.specs.Segment.{GridSegment, width, height, is_flat}
use Rattle.grid_base.specs.Sides.{side_number}
use Rattle.grid_base.specs.Crossing.{IsOn}
use Rattle.grid_base.specs.Places.{IsPlace}
use Rattle.grid_base.proofs.Turns.{leftward, rightward, on_is}
use Rattle.grid_base.proofs.Signs.{three_ways}
use Rattle.grid_base.proofs.Lines.{IsOnLine, line_by}
use Rattle.grid_base.proofs.Columns.{placed}
use Rattle.hook_chain.specs.Close.{IsCloseUp, Close}
use Rattle.grid_base.specs.Segment.{exchanged, exchanged_point}
use Rattle.grid_base.proofs.Signs.{natural_order}
use Rattle.hook_chain.proofs.Slanted.{turn_gap}
use Rattle.hook_chain.proofs.Upright.{grid_place}
use Rattle.hook_chain.proofs.Exchange.{way, place_back}
use Rattle.hook_chain.proofs.CloseParts.{CloseWhere}
use Rattle.segment_envelope.proofs.Shapes.{flat_is, steep_is}
use Rattle.segment_envelope.proofs.Ways.{exchanged_place}

-- a grid point on a segment is a place of it
pub on_place : (s : GridSegment) (p : GridPoint) → IsOn s p → IsPlace s (grid_place p.x p.y)
on_place s p on =
    let sums = on_is s.a s.b p on.line in
    let line : IsOnLine s (grid_place p.x p.y) = omega arith in
    record {
      real = omega arith;
      line = line_by s (grid_place p.x p.y) line;
      across = omega (arith, on.box);
      up = omega (arith, on.box);
    }

-- the side numbers of g at o differ from 0 by less than the width
record IsWithinStep (o : GridSegment) (g : GridPoint) : Type 0 where
  left : leftward o.a o.b g + o.a.x < rightward o.a o.b g + o.b.x
  right : rightward o.a o.b g + o.a.x < leftward o.a o.b g + o.b.x

-- a place a whole step under a row isn't over the row below
a_step_down : (y w side_left side_right place : ℕ) → side_right + w ≤ side_left → side_left + place ≡ side_right + y * w → 0 < y
    → place ≤ (y - 1) * w
a_step_down y w side_left side_right place far sides some =
    let before : (y - 1) + 1 ≡ y = omega arith in
    let product = ap (λ (n : ℕ). n * w) before in
    omega arith

-- by columns, a grid point on a close piece is within a step
within_step : (o p : GridSegment) (g : GridPoint) → o.a.x < o.b.x → o.a.x ≤ g.x → g.x ≤ o.b.x → IsPlace p (grid_place g.x g.y)
    → IsCloseUp o p → IsWithinStep o g
within_step o p g wide from to on close =
    let r = placed o g.x wide from to in
    let sides = r.sides g.y in
    let here : g.x ≡ g.x * 1 = omega arith in
    let not_far_under : leftward o.a o.b g + o.b.x ≤ rightward o.a o.b g + o.a.x → ⊥ =
    λ far. close (point_at g.x (g.y + 1)) r.place (grid_place g.x g.y) r.is on r.column here
    (inr (omega (arith, r.across), omega arith)) in
    let not_far_over : 0 < g.y → rightward o.a o.b g + o.b.x ≤ leftward o.a o.b g + o.a.x → ⊥ =
    λ some far.
    let step = a_step_down g.y r.place.w (leftward o.a o.b g) (rightward o.a o.b g) r.place.y (omega (arith, r.across)) sides some in
    close (point_at g.x (g.y - 1)) r.place (grid_place g.x g.y) r.is on r.column here (inl (step, omega arith)) in
    elim (natural_order g.y 0) [
      | inl none ↦
          let level : g.y ≡ 0 = omega arith in
          let product = ap (λ (n : ℕ). n * r.place.w) level in
          record { left = omega arith; right = omega (arith, not_far_under) }
      | inr some ↦ record { left = omega (arith, not_far_over some); right = omega (arith, not_far_under) }
    ]

-- the same where the ends may stand in either order
within_step_either : (a b : GridPoint) (p : GridSegment) (g : GridPoint) → a.x < b.x ⊎ b.x < a.x → IsFromTo a.x b.x g.x
    → IsPlace p (grid_place g.x g.y) → IsCloseUp (way a b) p → gap (leftward a b g) (rightward a b g) < gap a.x b.x
within_step_either a b p g (inl wide) range on close =
    let step = within_step (way a b) p g wide (omega arith) (omega arith) on close in omega (arith, step.left, step.right)
within_step_either a b p g (inr back) range on close =
    let step = within_step (way b a) p g back (omega arith) (omega arith) on
    (λ h r q of_o of_p. close h r q (place_back b a r of_o) of_p) in
    omega (arith, step.left, step.right)

near_where : (flat : Bool) (o p : GridSegment) (g : GridPoint) → flat ≡ is_flat o → IsBefore o.a o.b → InBox o.a o.b g → IsOn p g
    → CloseWhere flat o p → gap (leftward o.a o.b g) (rightward o.a o.b g) < max (width o) (height o)
near_where true o p g flat ordered box on close =
    let wide = flat_is o flat in
    let step = within_step_either o.a o.b p g (inl (omega arith)) box.0 (on_place p g on) close in
    omega arith
near_where false o p g steep ordered box on close =
    let high = steep_is o steep in
    let rows : o.a.y < o.b.y ⊎ o.b.y < o.a.y = elim (three_ways o.a.y o.b.y) [
      | inl up ↦ inl up
      | inr rest ↦ elim rest [ inl same ↦ absurd (omega arith) | inr down ↦ inr down ]
    ] in
    let step = within_step_either (exchanged_point o.a) (exchanged_point o.b) (exchanged p) (exchanged_point g) rows box.1
    (exchanged_place p (grid_place g.x g.y) (on_place p g on)) close in
    omega arith

-- a grid point on a close piece, in the box of the original, has a side number that is less in size than the greater run
pub near_by_close : (o p : GridSegment) (g : GridPoint) → IsBefore o.a o.b → InBox o.a o.b g → IsOn p g → Close o p
    → unsigned_abs (side_number o g) < max (width o) (height o)
near_by_close o p g ordered box on close =
    let near = near_where (is_flat o) o p g refl ordered box on close in
    rw (turn_gap o.a o.b g) near
