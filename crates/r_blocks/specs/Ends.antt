-- How segments with a common end are linked: to the first segment that has it. No public clause
-- cites this file.
use Rattle.std.specs.Prelude.{◌≡◌, ◌⊎◌, ℕ, ◌<◌, Option, Some, List, All, Contains, slice_index_or}
use Rattle.std.specs.BTreeMap.{BTreeMap}
use Rattle.std.specs.BTreeMap as tree
use Rattle.grid_base.specs.Point.{GridPoint, point_cmp}
use Rattle.grid_base.specs.Segment.{GridSegment, IsEnd}
use Rattle.r_blocks.specs.Blocks.{ShareAnEnd}
use Rattle.linked_parts.specs.Parts.{Links, AreLinked}

-- a tree from points to numbers of segments
abbrev pub Firsts : Type 0
Firsts = BTreeMap GridPoint ℕ

-- the number that the tree has at p
abbrev pub first_at : Firsts → GridPoint → Option ℕ
first_at firsts p = tree.get point_cmp firsts p

-- p is an end of the segment with this number
abbrev pub EndsThere : List GridSegment → GridPoint → ℕ → Type 0
EndsThere list p k = (d : GridSegment) → IsEnd p (slice_index_or list k d)

-- the tree has a number at p, and links lead from it to k
abbrev pub IsReached : Firsts → Links → GridPoint → ℕ → Type 0
IsReached firsts links p k = (m : ℕ) × (first_at firsts p ≡ Some m) × AreLinked links m k

-- the segment k, which ends at p, was linked to the first that does, or is the first itself
pub record EndLinked (firsts : Firsts) (links : Links) (after : Firsts) (more : Links)
    (p : GridPoint) (k : ℕ) : Type 0 where
  pub kept : (q : GridPoint) (m : ℕ) → first_at firsts q ≡ Some m → first_at after q ≡ Some m
  pub only : (q : GridPoint) (m : ℕ) → first_at after q ≡ Some m
      → (first_at firsts q ≡ Some m) ⊎ ((q ≡ p) × (m ≡ k))
  pub more_links : (l : ℕ × ℕ) → Contains links l → Contains more l
  pub only_links : (l : ℕ × ℕ) → Contains more l
      → Contains links l ⊎ ((first_at firsts p ≡ Some l.0) × (l.1 ≡ k))
  pub reached : IsReached after more p k

-- the link joins two of the first n segments, which have a common end
pub record IsShared (list : List GridSegment) (n : ℕ) (l : ℕ × ℕ) : Type 0 where
  pub first_below : l.0 < n
  pub second_below : l.1 < n
  pub share : (d : GridSegment) → ShareAnEnd (slice_index_or list l.0 d) (slice_index_or list l.1 d)

-- segments are linked as far as they are done: each that ends at p is reached from the first that does
pub record AreLinkedUp (list : List GridSegment) (n : ℕ) (firsts : Firsts) (links : Links)
    (Done : GridPoint → ℕ → Type 0) : Type 0 where
  pub numbers : (p : GridPoint) (m : ℕ) → first_at firsts p ≡ Some m → (m < n) × EndsThere list p m
  pub shared : All (IsShared list n) links
  pub reached : (p : GridPoint) (k : ℕ) → Done p k → IsReached firsts links p k
