-- Scans of explicit points over the box of a segment, column by column. No public clause cites this file.
use Rattle.std.specs.Prelude.{◌≡◌, ℕ, ◌+◌, ◌<◌, ◌≤◌, ◌↔◌, Bool, min, max, List, Contains, AllPairs}
use Rattle.std.specs.BTreeMap.Range.{range_contains}
use Rattle.std.specs.declared.ops.Bound.TheVariants.{Included}
use Rattle.grid_base.specs.Point.{GridPoint, point_at, point_cmp, InBox, IsBefore}
use Rattle.grid_base.specs.Segment.{GridSegment}
use Rattle.grid_base.specs.Crossing.{Inside}

-- s has points in this column
pub record Reaches (s : GridSegment) (column : ℕ) : Type 0 where
  pub from_a : s.a.x ≤ column
  pub to_b : column ≤ s.b.x

-- the next column is behind this one, and s reaches it
pub record IsAhead (s : GridSegment) (column next : ℕ) : Type 0 where
  pub behind : column < next
  pub to_b : next ≤ s.b.x

-- where p is out of the box of s, a scan goes on behind it in this column
pub record LeadsTo (s : GridSegment) (p : GridPoint) (next : ℕ) : Type 0 where
  -- below the box: in its own
  pub from_below : p.y < min s.a.y s.b.y → next ≡ p.x
  -- above it: in the next
  pub from_above : min s.a.y s.b.y ≤ p.y → next ≡ p.x + 1

-- the list has those of the points that are in the box of s and in a column before this one, ascending
pub record ListsBefore (points : List GridPoint) (s : GridSegment) (column : ℕ) (list : List GridPoint) : Type 0 where
  pub exact : (p : GridPoint) → Contains list p ↔ (Contains points p × InBox s.a s.b p × (p.x < column))
  pub ascending : AllPairs IsBefore list

-- none of the points in a column before this one is inside s
abbrev pub NoneBefore : List GridPoint → GridSegment → ℕ → Type 0
NoneBefore points s column = (p : GridPoint) → Contains points p → p.x < column → Inside p s → ⊥

-- whether p comes between the least row of the box of s in this column and the greatest point of the box
abbrev pub is_scanned : GridSegment → ℕ → GridPoint → Bool
is_scanned s column p =
    range_contains point_cmp (Included (point_at column (min s.a.y s.b.y))) (Included (point_at s.b.x (max s.a.y s.b.y))) p
