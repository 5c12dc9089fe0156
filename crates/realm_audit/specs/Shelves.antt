-- Where the share of a piece stands, so that pieces are found by their boxes. No public clause cites this file.
use Rattle.std.specs.Prelude.{◌≡◌, ℕ, ◌+◌, ◌-◌, ◌*◌, ◌/◌, ◌^◌, ◌<◌, ◌≤◌, min, max, List, Contains}
use Rattle.std.specs.Int.{leading_zeros, w32}
use Rattle.grid_base.specs.Grid.{grid_bits}
use Rattle.grid_base.specs.Point.{GridPoint, IsBefore}
use Rattle.grid_base.specs.Segment.{GridSegment, width, height}
use Rattle.realm_audit.specs.declared.shelves.Shelf.{Shelf}
use Rattle.realm_audit.specs.declared.bounds.Bounds.{Bounds}
use Rattle.realm_audit.specs.declared.shares.Share.{Share}

-- how far the piece reaches across and up, whichever is more
abbrev pub extent : GridSegment → ℕ
extent s = max (width s) (height s)

-- what the pieces of a level are narrower and lower than
abbrev pub reach_of : ℕ → ℕ
reach_of level = 2 ^ (2 * level + 4)

-- the width of its columns, eight times as much where the grid is as wide
abbrev pub width_of : ℕ → ℕ
width_of level = 2 ^ min (2 * level + 7) grid_bits

-- the greatest level, whose pieces may be as wide as the grid
abbrev pub top_level : ℕ
top_level = (grid_bits - 3) / 2

-- the level of a piece, the least that has room for it
abbrev pub level_of : GridSegment → ℕ
level_of s = (29 - leading_zeros w32 (extent s)) / 2

-- its lowest row
abbrev pub lowest : GridSegment → ℕ
lowest s = min s.a.y s.b.y

-- its highest row
abbrev pub highest : GridSegment → ℕ
highest s = max s.a.y s.b.y

-- Its shelf: on its level, in the column that its lesser end is in, at its lowest row. Rows are counted from 1 here, so that
-- row 0 comes before all.
abbrev pub shelf_of : GridSegment → Shelf
shelf_of s = record { level = level_of s; column = s.a.x / width_of (level_of s); row = lowest s + 1 }

-- the share of s and x
abbrev pub share_of : GridSegment → ℕ → Share
share_of s x = record { shelf = shelf_of s; piece = s; id = x }

-- the share stands where it should, and its level has room for its piece
pub record IsShelved (y : Share) : Type 0 where
  pub shelf_is : y.shelf ≡ shelf_of y.piece
  pub fits : extent y.piece < reach_of (level_of y.piece)
  pub level_within : level_of y.piece ≤ top_level
  pub small_id : y.id < 2 ^ 32
  pub ordered : IsBefore y.piece.a y.piece.b

-- the list has the share of s and x
abbrev pub HasShare : List Share → GridSegment → ℕ → Type 0
HasShare list s x = Contains list (share_of s x)

-- the bounds are the box of t
pub record AreBoundsOf (b : Bounds) (t : GridSegment) : Type 0 where
  pub left : b.left ≡ t.a.x
  pub right : b.right ≡ t.b.x
  pub low : b.low ≡ lowest t
  pub high : b.high ≡ highest t

-- the bounds are the point p
pub record AreBoundsAt (b : Bounds) (p : GridPoint) : Type 0 where
  pub left : b.left ≡ p.x
  pub right : b.right ≡ p.x
  pub low : b.low ≡ p.y
  pub high : b.high ≡ p.y

-- the box of s and the bounds have a common point
pub record MeetsBounds (b : Bounds) (s : GridSegment) : Type 0 where
  pub from_left : s.a.x ≤ b.right
  pub to_right : b.left ≤ s.b.x
  pub from_below : lowest s ≤ b.high
  pub to_above : b.low ≤ highest s

-- the list has pieces of shares alone
abbrev pub ListsPieces : List Share → List GridSegment → Type 0
ListsPieces shares list = (s : GridSegment) → Contains list s → (x : ℕ) × HasShare shares s x
