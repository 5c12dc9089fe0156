-- Boxes that lie off the line of a segment.
use Rattle.std.specs.Prelude.{◌≡◌, ◌⊎◌, ◌||◌, Bool, true, false, cond, nat_le}
use Rattle.grid_base.specs.Point.{GridPoint, InBox, point_at}
use Rattle.grid_base.specs.Segment.{GridSegment, BoxesMeet}
use Rattle.grid_base.specs.Sides.{Side, Left, On, Right, side}
use Rattle.realm_index.specs.Bounds.{Bounds}

-- all points of the box of t are on one side of the line of s
abbrev pub IsAside : GridSegment → GridSegment → Type 0
IsAside s t = ((p : GridPoint) → InBox t.a t.b p → side s.a s.b p ≡ Left)
    ⊎ ((p : GridPoint) → InBox t.a t.b p → side s.a s.b p ≡ Right)

-- the box of t meets that of s, and doesn't lie off its line
abbrev pub IsAlong : GridSegment → GridSegment → Type 0
IsAlong s t = BoxesMeet s t × (IsAside s t → ⊥)

-- ---- by tests, which no public clause cites
abbrev pub is_left : Side → Bool
is_left Left = true
is_left On = false
is_left Right = false

abbrev pub is_right : Side → Bool
is_right Left = false
is_right On = false
is_right Right = true

-- the corners of the box that are farthest to the right of the line of s and farthest to its left
abbrev pub rightmost : GridSegment → Bounds → GridPoint
rightmost s b = point_at (cond (nat_le s.a.y s.b.y) b.right b.left) b.low

abbrev pub leftmost : GridSegment → Bounds → GridPoint
leftmost s b = point_at (cond (nat_le s.a.y s.b.y) b.left b.right) b.high

-- whether the box lies off the line of s
abbrev pub is_aside : GridSegment → Bounds → Bool
is_aside s b = is_left (side s.a s.b (rightmost s b)) || is_right (side s.a s.b (leftmost s b))
