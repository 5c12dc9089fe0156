-- The labels of places, and of segments that aren't of the border. No public clause cites this file.
use Rattle.std.specs.Prelude.{◌≡◌, ◌⊎◌, ℕ, suc, ◌*◌, ◌<◌, List, [], ◌∷◌, pos, ◌≤ℤ◌}
use Rattle.grid_base.specs.Segment.{GridSegment}
use Rattle.grid_base.specs.Sides.{Side, Left, On, Right}
use Rattle.grid_base.specs.Segment.{IsEnd}
use Rattle.grid_base.specs.Plane.{Place, side_at, side_number_at, Holds, HoldsInside}
use Rattle.plane_cells.specs.Order.{at_point}
use Rattle.plane_cells.specs.Steps.{Step, after}

-- over i it has the label of i, and else the one before
abbrev pub pick : Side → ℕ → ℕ → ℕ
pick Left i d = suc i
pick On i d = d
pick Right i d = d

-- the label of q: that of the last segment of the list that is below it, d where there is none
abbrev pub label_at : (ℕ → GridSegment) → Place → ℕ → List ℕ → ℕ
label_at seg q d [] = d
label_at seg q d (i ∷ l) = label_at seg q (pick (side_at (seg i) q) i d) l

-- q has the label y, in one of the slabs whose columns have it
abbrev pub HasLabel : (ℕ → GridSegment) → List ℕ → List Step → Place → ℕ → Type 0
HasLabel seg status [] q y = label_at seg q 0 status ≡ y
HasLabel seg status (k ∷ steps) q y =
    ((q.x ≤ℤ pos (k.vertex.x * q.w)) × (label_at seg q 0 status ≡ y)) ⊎
    ((pos (k.vertex.x * q.w) ≤ℤ q.x) × HasLabel seg (after k) steps q y)

-- a segment t that isn't of B, where all together are of a realm
pub record IsOther (n : ℕ) (seg : ℕ → GridSegment) (t : GridSegment) : Type 0 where
  pub slanted : t.a.x < t.b.x
  pub off : (i : ℕ) → i < n → (c : Place) → HoldsInside t c → Holds (seg i) c → ⊥
  pub begin : (i : ℕ) → i < n → Holds (seg i) (at_point t.a) → IsEnd t.a (seg i)
  pub fan : (i : ℕ) → i < n → (seg i).a ≡ t.a → side_number_at (seg i) (at_point t.b) ≡ pos 0 → ⊥
