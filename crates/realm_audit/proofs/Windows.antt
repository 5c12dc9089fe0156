-- This file shows that a piece that reaches a box stands in the window of the box on its level.
use Rattle.std.proofs.Common.{ℕ, ◌+◌, ◌-◌, ◌*◌, ◌/◌, ◌<◌, ◌≤◌, min, arith}
use Rattle.std.proofs.lemmas.Nat.{div-add-mod', le-div, pow_pos}
use Rattle.grid_base.specs.Grid.{grid_bits}
use Rattle.grid_base.specs.Segment.{GridSegment}
use Rattle.realm_audit.specs.Shelves.{extent, lowest, reach_of, width_of, level_of, shelf_of, share_of, IsShelved, MeetsBounds}
use Rattle.realm_audit.specs.Windows.{IsInWindow}
use Rattle.realm_audit.specs.declared.bounds.Bounds.{Bounds}

-- ---- quotients
div_le : (a b k : ℕ) → 0 < k → a ≤ b → a / k ≤ b / k
div_le a b k some le = le-div (a / k) b k some (let parts = div-add-mod' a k in omega (arith, parts, le))

-- ---- columns
column_to : (b : Bounds) (s : GridSegment) (width : ℕ) → 0 < width → MeetsBounds b s → s.a.x / width ≤ b.right / width
column_to b s width some reaches = div_le s.a.x b.right width some reaches.from_left

column_from : (b : Bounds) (s : GridSegment) (reach width : ℕ) → 0 < width → extent s < reach → MeetsBounds b s
    → (b.left - reach) / width ≤ s.a.x / width
column_from b s reach width some fits reaches = div_le (b.left - reach) s.a.x width some
    (let to_right = reaches.to_right in omega (arith, fits, to_right))

-- ---- rows
row_from : (b : Bounds) (s : GridSegment) (reach : ℕ) → extent s < reach → MeetsBounds b s → b.low - reach < lowest s + 1
row_from b s reach fits reaches = let to_above = reaches.to_above in omega (arith, fits, to_above)

row_to : (b : Bounds) (s : GridSegment) → MeetsBounds b s → lowest s + 1 ≤ b.high + 1
row_to b s reaches = let from_below = reaches.from_below in omega (arith, from_below)

-- ---- a piece that reaches the bounds stands in their window
pub meets_in_window : (b : Bounds) (s : GridSegment) (x : ℕ) → IsShelved (share_of s x) → MeetsBounds b s
    → IsInWindow b (shelf_of s)
meets_in_window b s x at reaches =
    let reach = reach_of (level_of s) in
    let width = width_of (level_of s) in
    let fits : extent s < reach = at.fits in
    let some : 0 < width = pow_pos (min (2 * level_of s + 7) grid_bits) in
    record {
      from_first = column_from b s reach width some fits reaches;
      to_last = column_to b s width some reaches;
      above = row_from b s reach fits reaches;
      to_top = row_to b s reaches;
    }
