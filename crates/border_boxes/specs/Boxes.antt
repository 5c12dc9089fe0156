-- The least box with sides along the axes that holds a border, and how boxes and places lie to one another.
use Rattle.std.specs.Prelude.{◌≡◌, ◌⊎◌, ◌*◌, ◌^◌, ◌-◌, ◌≤◌, ◌<◌, List, All, pos, ◌≤ℤ◌, ◌<ℤ◌}
use Rattle.grid_base.specs.Point.{GridPoint, IsBefore}
use Rattle.grid_base.specs.Segment.{GridSegment}
use Rattle.grid_base.specs.Plane.{Place}
use Rattle.border_boxes.specs.declared.boxes.BorderBox.{BorderBox}

-- ---- segments in a box
-- the lesser end of s comes first, and its columns and rows are those of the box
pub record IsWithin (box : BorderBox) (s : GridSegment) : Type 0 where
  pub order : IsBefore s.a s.b
  pub left : box.left ≤ s.a.x
  pub right : s.b.x ≤ box.right
  pub low : (box.low ≤ s.a.y) × (box.low ≤ s.b.y)
  pub high : (s.a.y ≤ box.high) × (s.b.y ≤ box.high)

-- the box holds all segments of the list
abbrev pub HoldsAll : BorderBox → List GridSegment → Type 0
HoldsAll box list = All (IsWithin box) list

-- ---- two boxes
-- the empty box: its columns and its rows run backwards
abbrev pub empty_box : BorderBox
empty_box = record { left = 2 ^ 32 - 1; right = 0; low = 2 ^ 32 - 1; high = 0 }

-- no side of the first box is outside of the second
pub record HasItsSidesIn (first second : BorderBox) : Type 0 where
  pub left : second.left ≤ first.left
  pub right : first.right ≤ second.right
  pub low : second.low ≤ first.low
  pub high : first.high ≤ second.high

-- the first box is the empty one, or has its sides in the second
abbrev pub LiesIn : BorderBox → BorderBox → Type 0
LiesIn first second = (first ≡ empty_box) ⊎ HasItsSidesIn first second

-- the boxes have no column in common but that of a common side, or no row but that of one
abbrev pub AreBeside : BorderBox → BorderBox → Type 0
AreBeside first second =
    ((first.right ≤ second.left) ⊎ (second.right ≤ first.left))
    ⊎ ((first.high ≤ second.low) ⊎ (second.high ≤ first.low))

-- the boxes have no column in common, or no row
abbrev pub AreApart : BorderBox → BorderBox → Type 0
AreApart first second =
    ((first.right < second.left) ⊎ (second.right < first.left))
    ⊎ ((first.high < second.low) ⊎ (second.high < first.low))

-- ---- the box of a border
-- the box holds all segments of the list, and lies in each box that holds them
pub record IsBoxOf (box : BorderBox) (list : List GridSegment) : Type 0 where
  pub holds : HoldsAll box list
  pub least : (other : BorderBox) → HoldsAll other list → LiesIn box other

-- ---- places in a box
-- the point p lies in the box, its rim counted
pub record HasPoint (box : BorderBox) (p : GridPoint) : Type 0 where
  pub from_left : box.left ≤ p.x
  pub to_right : p.x ≤ box.right
  pub from_low : box.low ≤ p.y
  pub to_high : p.y ≤ box.high

-- the place q lies in the box, its rim counted
pub record HasPlace (box : BorderBox) (q : Place) : Type 0 where
  pub from_left : pos (box.left * q.w) ≤ℤ q.x
  pub to_right : q.x ≤ℤ pos (box.right * q.w)
  pub from_low : pos (box.low * q.w) ≤ℤ q.y
  pub to_high : q.y ≤ℤ pos (box.high * q.w)

-- the place q lies in the box and not on its rim
pub record HasPlaceInside (box : BorderBox) (q : Place) : Type 0 where
  pub past_left : pos (box.left * q.w) <ℤ q.x
  pub before_right : q.x <ℤ pos (box.right * q.w)
  pub past_low : pos (box.low * q.w) <ℤ q.y
  pub before_high : q.y <ℤ pos (box.high * q.w)
