-- What the parts of the sweep look for in lists of segment numbers. No public clause cites this file.
use Rattle.std.specs.Prelude.{◌≡◌, ◌⊎◌, ℕ, ◌+◌, ◌*◌, ◌<◌, ◌≤◌, List, [], ◌∷◌, ◌++◌, length, take, drop}
use Rattle.std.specs.Prelude.{pos, ◌<ℤ◌}
use Rattle.grid_base.specs.Grid.{grid_side}
use Rattle.grid_base.specs.Point.{GridPoint}
use Rattle.grid_base.specs.Segment.{GridSegment}
use Rattle.grid_base.specs.Sides.{turn}
use Rattle.plane_cells.specs.Steps.{In, Each, Pairs}
use Rattle.plane_cells.specs.Numbered.{numbered}

-- the column of a point in the sheared plane
abbrev pub column_of : GridPoint → ℕ
column_of p = grid_side * p.x + p.y

-- p is on the left of segment number i
abbrev pub IsLeftOf : List GridSegment → GridPoint → ℕ → Type 0
IsLeftOf B p i = pos 0 <ℤ turn (numbered B i).a (numbered B i).b p

-- the columns of the ends, segment by segment
abbrev pub end_columns : List GridSegment → List ℕ
end_columns [] = []
end_columns (s ∷ B) = column_of s.a ∷ column_of s.b ∷ end_columns B

-- each number is one of a segment
abbrev pub AreNumbers : List GridSegment → List ℕ → Type 0
AreNumbers B l = Each (λ i. i < length B) l

-- where p is on the left of one, it is on the left of those before it
abbrev pub IsSortedAt : List GridSegment → GridPoint → List ℕ → Type 0
IsSortedAt B p l = Pairs (λ i j. IsLeftOf B p j → IsLeftOf B p i) l

-- segment j begins where i does, further to the left
abbrev pub IsLeftward : List GridSegment → ℕ → ℕ → Type 0
IsLeftward B i j = IsLeftOf B (numbered B j).b i

-- ---- the segments that begin at a point
-- the lesser ends are in order
abbrev pub AreAscending : List GridSegment → Type 0
AreAscending B = (i j : ℕ) → i ≤ j → j < length B → column_of (numbered B i).a ≤ column_of (numbered B j).a

-- segments before number `next` begin before v, and the others at it or behind it
pub record IsNext (B : List GridSegment) (v : GridPoint) (next : ℕ) : Type 0 where
  pub within : next ≤ length B
  pub earlier : (i : ℕ) → i < next → column_of (numbered B i).a < column_of v
  pub later : (i : ℕ) → next ≤ i → i < length B → column_of v ≤ column_of (numbered B i).a

-- the segments from number `next` to just before `stop` begin at v, and F has them, by angle
pub record IsFanTo (B : List GridSegment) (v : GridPoint) (next stop : ℕ) (F : List ℕ) : Type 0 where
  pub order : next ≤ stop
  pub within : stop ≤ length B
  pub count : next + length F ≡ stop
  pub numbers : Each (λ i. (next ≤ i) × (i < stop)) F
  pub all : (i : ℕ) → next ≤ i → i < stop → In i F
  pub begins : Each (λ i. (numbered B i).a ≡ v) F
  pub leftward : Pairs (IsLeftward B) F

-- F has all segments that begin at v, by angle
pub record IsFan (B : List GridSegment) (v : GridPoint) (next : ℕ) (F : List ℕ) : Type 0 where
  pub fan : IsFanTo B v next (next + length F) F
  pub all : (i : ℕ) → i < length B → (numbered B i).a ≡ v → In i F
  pub behind : (i : ℕ) → next + length F ≤ i → i < length B → column_of v < column_of (numbered B i).a

-- the list with i at some place
abbrev pub IsInserted : ℕ → List ℕ → List ℕ → Type 0
IsInserted i l m = (p : ℕ) × (p ≤ length l) × (m ≡ take p l ++ (i ∷ drop p l))

-- s is below t just behind the lesser end of t, as their ends tell
abbrev pub IsUnderBegin : GridSegment → GridSegment → Type 0
IsUnderBegin s t = (pos 0 <ℤ turn s.a s.b t.a) ⊎ ((s.a ≡ t.a) × (pos 0 <ℤ turn s.a s.b t.b))
