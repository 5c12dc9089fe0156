-- The near points of a segment in one of its columns, or in one of its rows where it is steep.
use Rattle.std.specs.Prelude.{◌≡◌, ◌⊎◌, ℕ, ◌+◌, ◌<◌, ◌≤◌, min, max, if◌then◌else◌}
use Rattle.grid_base.specs.Point.{GridPoint, IsFromTo, point_at}
use Rattle.grid_base.specs.Segment.{GridSegment, is_flat}
use Rattle.grid_base.specs.Crossing.{IsOn}
use Rattle.segment_envelope.specs.Near.{Near}

-- how far along s the point p lies: its column where s is flat, and its row where s is steep
abbrev pub along : GridSegment → GridPoint → ℕ
along s p = if is_flat s then p.x else p.y

-- k is a column of s, those of its ends counted; a row where s is steep
abbrev pub IsColumn : GridSegment → ℕ → Type 0
IsColumn s k = IsFromTo (along s s.a) (along s s.b) k

-- k is before the first column of s or after the last; a row where s is steep
abbrev pub IsBeyond : GridSegment → ℕ → Type 0
IsBeyond s k = (k < min (along s s.a) (along s s.b)) ⊎ (max (along s s.a) (along s s.b) < k)

-- the point y in column k where s is flat, and in row k where s is steep
abbrev pub at_column : GridSegment → ℕ → ℕ → GridPoint
at_column s k y = if is_flat s then point_at k y else point_at y k

-- k is a column of s, and least and greatest are the first and the last near point of s there
pub record IsColumnPair (s : GridSegment) (k least greatest : ℕ) : Type 0 where
  pub column : IsColumn s k
  pub least_is_near : Near s (at_column s k least)
  pub greatest_is_near : Near s (at_column s k greatest)
  pub no_other : (y : ℕ) → Near s (at_column s k y) → (least ≤ y) × (y ≤ greatest)

-- least and greatest are one, exactly where it is a point on s, or next to each other
pub record AreNextTo (s : GridSegment) (k least greatest : ℕ) : Type 0 where
  pub adjacent : greatest ≤ least + 1
  pub one_is_on : least ≡ greatest → IsOn s (at_column s k least)
  pub on_is_both : (y : ℕ) → IsOn s (at_column s k y) → (least ≡ y) × (greatest ≡ y)
