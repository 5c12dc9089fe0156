-- Sweeps, for segments of which none is vertical and whose ends have each a column of its own. No public
-- clause cites this file.
use Rattle.std.specs.Prelude.{◌≡◌, ◌⊎◌, ℕ, ◌<◌, ◌≤◌, List, [], ◌∷◌, pos, ◌<ℤ◌}
use Rattle.grid_base.specs.Segment.{GridSegment}
use Rattle.grid_base.specs.Segment.{IsEnd}
use Rattle.grid_base.specs.Plane.{side_number_at}
use Rattle.plane_cells.specs.Steps.{Step, before, after, In, Each, Pairs}
use Rattle.plane_cells.specs.Order.{at_point, IsFurtherDown}

-- a wall on one side of a slab, if there is one
pub data Bound : Type 0 where
  None : Bound
  Wall : ℕ → Bound

-- P holds of the wall, if there is one
abbrev pub IfWall : (ℕ → Type 0) → Bound → Type 0
IfWall P None = Unit {0}
IfWall P (Wall c) = P c

-- there is a wall, and P holds of it
abbrev pub HasWall : (ℕ → Type 0) → Bound → Type 0
HasWall P None = ⊥
HasWall P (Wall c) = P c

-- the segment goes from one wall of the slab to the other
pub record IsAcross (n : ℕ) (seg : ℕ → GridSegment) (lo hi : Bound) (i : ℕ) : Type 0 where
  pub number : i < n
  pub from : HasWall (λ c. (seg i).a.x ≤ c) lo
  pub to : HasWall (λ e. e ≤ (seg i).b.x) hi

-- segment i crosses the slab, or begins behind it, or ends before it
pub data Lies (seg : ℕ → GridSegment) (lo hi : Bound) (status : List ℕ) (i : ℕ) : Type 0 where
  Across : In i status → Lies seg lo hi status i
  Ahead : HasWall (λ e. e ≤ (seg i).a.x) hi → Lies seg lo hi status i
  Past : HasWall (λ c. (seg i).b.x ≤ c) lo → Lies seg lo hi status i

-- the status is that of the slab, from below
pub record IsStatus (n : ℕ) (seg : ℕ → GridSegment) (lo hi : Bound) (status : List ℕ) : Type 0 where
  pub across : Each (IsAcross n seg lo hi) status
  pub others : (i : ℕ) → i < n → Lies seg lo hi status i
  pub sorted : Pairs (IsFurtherDown seg) status

-- the numbers of the segments at a vertex
pub record IsStep (n : ℕ) (seg : ℕ → GridSegment) (k : Step) : Type 0 where
  pub vertex : (i : ℕ) × (i < n) × IsEnd k.vertex (seg i)
  pub below : Each (λ i. pos 0 <ℤ side_number_at (seg i) (at_point k.vertex)) k.below
  pub ends : Each (λ i. (seg i).b ≡ k.vertex) k.ends
  pub begins : Each (λ i. (seg i).a ≡ k.vertex) k.begins
  pub above : Each (λ i. side_number_at (seg i) (at_point k.vertex) <ℤ pos 0) k.above

-- the steps lead from the status to the end of the plane; lo is the wall before them
abbrev pub Walk : ℕ → (ℕ → GridSegment) → Bound → List ℕ → List Step → Type 0
Walk n seg lo status [] = IsStatus n seg lo None status
Walk n seg lo status (k ∷ steps) =
    (status ≡ before k) × IsStep n seg k × IfWall (λ c. c < k.vertex.x) lo × IsStatus n seg lo
    (Wall k.vertex.x) status × Walk n seg (Wall k.vertex.x) (after k) steps

-- the segments that are begun at the wall or before it, and end behind it, from below
pub record IsHere (n : ℕ) (seg : ℕ → GridSegment) (lo : Bound) (status : List ℕ) : Type 0 where
  pub number : Each (λ i. i < n) status
  pub begun : Each (λ i. HasWall (λ c. ((seg i).a.x ≤ c) × (c < (seg i).b.x)) lo) status
  pub others : (i : ℕ) → i < n
      → In i status ⊎ (IfWall (λ c. c < (seg i).a.x) lo ⊎ HasWall (λ c. (seg i).b.x ≤ c) lo)
  pub sorted : Pairs (IsFurtherDown seg) status

-- the steps lead from one status to another; lo and lo' are the walls before them
abbrev pub WalkTo : ℕ → (ℕ → GridSegment) → Bound → List ℕ → List Step → Bound → List ℕ → Type 0
WalkTo n seg lo status [] lo' status' = (lo ≡ lo') × (status ≡ status')
WalkTo n seg lo status (k ∷ steps) lo' status' =
    (status ≡ before k) × IsStep n seg k × IfWall (λ c. c < k.vertex.x) lo × IsStatus n seg lo
    (Wall k.vertex.x) status × WalkTo n seg (Wall k.vertex.x) (after k) steps lo' status'

-- the segments that begin at the steps are before number `next`
abbrev pub BeginBefore : ℕ → List Step → Type 0
BeginBefore next [] = Unit {0}
BeginBefore next (k ∷ steps) = Each (λ i. i < next) k.begins × BeginBefore next steps
