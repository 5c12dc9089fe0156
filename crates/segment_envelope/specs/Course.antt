-- A segment along its own axis, by columns where it is flat and by rows where it is steep. No public
-- clause cites this file.
use Rattle.std.specs.Prelude.{◌≡◌, ◌⊎◌, ℕ, ◌+◌, ◌-◌, ◌*◌, ◌<◌, ◌≤◌}
use Rattle.grid_base.specs.Grid.{grid_side}
use Rattle.grid_base.specs.Segment.{GridSegment}
use Rattle.segment_envelope.specs.ColumnPair.{at_column}
use Rattle.segment_envelope.specs.declared.columns.Course.{Course}

-- c leads from one end of s to the other
abbrev pub IsCourseOf : GridSegment → Course → Type 0
IsCourseOf s c =
    ((at_column s c.from c.first ≡ s.a) × (at_column s c.to c.last ≡ s.b))
    ⊎ ((at_column s c.from c.first ≡ s.b) × (at_column s c.to c.last ≡ s.a))

-- c leads to a greater column, and all its numbers are on the grid
pub record IsOnGrid (c : Course) : Type 0 where
  pub forward : c.from < c.to
  pub to : c.to < grid_side
  pub first : c.first < grid_side
  pub last : c.last < grid_side

-- how many columns c runs across
abbrev pub run : Course → ℕ
run c = c.to - c.from

-- where c is in column k, times its run: the mean of first and last, each with the way from k to the
-- other as its weight
abbrev pub weighted : Course → ℕ → ℕ
weighted c k = c.first * (c.to - k) + c.last * (k - c.from)

-- down and up are n / d, rounded down and rounded up
pub record AreRoundings (n d down up : ℕ) : Type 0 where
  pub not_above : down * d ≤ n
  pub next_above : n < (down + 1) * d
  pub not_below : n ≤ up * d
  pub close_below : up * d < n + d
