-- This file defines what the proof of the sweep asks of segments, of walls and of a step, beside the definitions that clauses cite.
use Rattle.std.proofs.Common.{◌≡◌, ◌⊎◌, ℕ, ◌*◌, ◌<◌, ◌≤◌, List, Contains, pos, ◌<ℤ◌, ◌≤ℤ◌}
use Rattle.grid_base.specs.Point.{GridPoint}
use Rattle.grid_base.specs.Segment.{GridSegment, IsEnd}
use Rattle.grid_base.specs.Plane.{Place, side_number_at, Holds, IsAtPoint}
use Rattle.plane_cells.specs.Steps.{Step, In, Each, Pairs}
use Rattle.plane_cells.specs.Order.{at_point}
pub use Rattle.plane_cells.specs.Walks.{Bound, None, Wall, IfWall, HasWall, IsAcross, Lies, Across, Ahead, Past}
pub use Rattle.plane_cells.specs.Walks.{IsStatus, IsStep, Walk}
pub use Rattle.plane_cells.specs.Labels.{HasLabel}

-- the segments of B have the numbers below n
pub record Position (B : List GridSegment) (n : ℕ) (seg : ℕ → GridSegment) : Type 0 where
  pub listed : (i : ℕ) → i < n → Contains B (seg i)
  pub all : (s : GridSegment) → Contains B s → (i : ℕ) × (i < n) × (seg i ≡ s)
  pub slanted : (i : ℕ) → i < n → (seg i).a.x < (seg i).b.x
  -- two segments have nothing in common but a common end
  pub apart : (i j : ℕ) (q : Place) → i < n → j < n → (i ≡ j → ⊥) → Holds (seg i) q → Holds (seg j) q
      → (p : GridPoint) × IsEnd p (seg i) × IsEnd p (seg j) × IsAtPoint q p
  -- ends in one column are one point
  pub columns : (i j : ℕ) (p r : GridPoint) → i < n → j < n → IsEnd p (seg i) → IsEnd r (seg j) → p.x ≡ r.x
      → p ≡ r

-- q is not left of the wall
abbrev pub IsFrom : Bound → Place → Type 0
IsFrom lo q = IfWall (λ c. pos (c * q.w) ≤ℤ q.x) lo

-- q is not right of the wall
abbrev pub IsTo : Bound → Place → Type 0
IsTo hi q = IfWall (λ e. q.x ≤ℤ pos (e * q.w)) hi

-- v is the first end behind the wall
pub record IsNextVertex (n : ℕ) (seg : ℕ → GridSegment) (lo : Bound) (v : GridPoint) : Type 0 where
  pub vertex : (i : ℕ) × (i < n) × IsEnd v (seg i)
  pub later : IfWall (λ c. c < v.x) lo
  pub none_between : (i : ℕ) (p : GridPoint) → i < n → IsEnd p (seg i)
      → HasWall (λ c. p.x ≤ c) lo ⊎ (v.x ≤ p.x)

-- what a step must have to lead to a right status again
pub record IsTurn (n : ℕ) (seg : ℕ → GridSegment) (k : Step) : Type 0 where
  pub step : IsStep n seg k
  pub numbers : Each (λ i. i < n) k.begins
  pub all : (i : ℕ) → i < n → (seg i).a ≡ k.vertex → In i k.begins
  pub fan : Pairs (λ i j. pos 0 <ℤ side_number_at (seg i) (at_point (seg j).b)) k.begins
