-- This file shows that a grid point lies in one way to all places of a segment in its column, and what that says of the side.
use Rattle.std.proofs.Common.{◌≡◌, ◌⊎◌, ◌*◌, ◌<◌, ◌≤◌, Bool, true, false, not, arith, inl, inr}
use Rattle.std.proofs.lemmas.Bool.{lt-ltb, le-ltb}
use Rattle.grid_base.specs.Point.{GridPoint}
use Rattle.grid_base.specs.Segment.{GridSegment, exchanged_point}
use Rattle.grid_base.specs.SideOf.{Lie, Above, At, Below, SideUp}
use Rattle.grid_base.proofs.Turns.{leftward, rightward}
use Rattle.grid_base.proofs.Columns.{placed, under_place, above_place}
use Rattle.grid_base.proofs.Signs.{three_ways}
use Rattle.hook_chain.proofs.Closes.{not_under_place, not_above_place}
use Rattle.hook_chain.proofs.Exchange.{way, place_back}
use Rattle.unswept_regions.proofs.LinkTests.{is_right_of}

-- ---- from sums to places
lie_below : (s : GridSegment) (p : GridPoint) → s.a.x < s.b.x → leftward s.a s.b p < rightward s.a s.b p
    → SideUp s p Below
lie_below s p wide right q is column =
    let no : q.y ≤ p.y * q.w → ⊥ = λ not_under. (let left = not_under_place s p q wide is column not_under in omega arith) in
    omega (arith, no)

lie_above : (s : GridSegment) (p : GridPoint) → s.a.x < s.b.x → rightward s.a s.b p < leftward s.a s.b p
    → SideUp s p Above
lie_above s p wide left q is column =
    let no : p.y * q.w ≤ q.y → ⊥ = λ not_above. (let right = not_above_place s p q wide is column not_above in omega arith) in
    omega (arith, no)

-- a point on the line is at each place in its column
pub lie_at : (s : GridSegment) (p : GridPoint) → s.a.x < s.b.x → leftward s.a s.b p ≡ rightward s.a s.b p
    → SideUp s p At
lie_at s p wide line q is column =
    let no_under : p.y * q.w < q.y → ⊥ = λ under. (let right = under_place s p q wide is column under in omega arith) in
    let no_above : q.y < p.y * q.w → ⊥ = λ above. (let left = above_place s p q wide is column above in omega arith) in
    omega (arith, no_under, no_above)

-- a point lies somehow to a segment that isn't vertical
pub some_lie : (s : GridSegment) (p : GridPoint) → s.a.x < s.b.x → (lie : Lie) × SideUp s p lie
some_lie s p wide = elim (three_ways (leftward s.a s.b p) (rightward s.a s.b p)) [
  | inl below ↦ (Below, lie_below s p wide below)
  | inr (inl on) ↦ (At, lie_at s p wide on)
  | inr (inr above) ↦ (Above, lie_above s p wide above)
]

-- and so to the segment the other way round
pub turned_lie : (v w p : GridPoint) (lie : Lie) → SideUp (way w v) p lie → SideUp (way v w) p lie
turned_lie v w p lie h q is column = h q (place_back v w q is) column

-- ---- from places to sides, for a point that isn't at the places
-- whether what p lies to is above it
abbrev pub is_below : Lie → Bool
is_below Above = false
is_below At = false
is_below Below = true

-- p isn't at the places
abbrev pub IsApart : Lie → Type 0
IsApart lie = (lie ≡ Above) ⊎ (lie ≡ Below)

-- p is right of a segment that is above it in p's column, and not of one that is below it
pub right_by : (s : GridSegment) (p : GridPoint) (lie : Lie) → s.a.x < s.b.x → s.a.x ≤ p.x → p.x ≤ s.b.x
    → IsApart lie → SideUp s p lie → is_right_of p s ≡ is_below lie
right_by s p Above wide from to apart lies =
    let q = placed s p.x wide from to in
    le-ltb _ _ (let o = above_place s p q.place wide q.is q.column (lies q.place q.is q.column) in omega arith)
right_by s p At wide from to (inl e) lies = cc
right_by s p At wide from to (inr e) lies = cc
right_by s p Below wide from to apart lies =
    let q = placed s p.x wide from to in
    lt-ltb _ _ (under_place s p q.place wide q.is q.column (lies q.place q.is q.column))

-- rows for columns
abbrev pub in_rows : GridPoint → GridPoint → GridSegment
in_rows v w = way (exchanged_point v) (exchanged_point w)

-- p is right of a rising segment exactly where the place in p's row is left of it
pub rising_by : (p v w : GridPoint) (lie : Lie) → v.y < w.y → v.y ≤ p.y → p.y ≤ w.y → IsApart lie
    → SideUp (in_rows v w) (exchanged_point p) lie → is_right_of p (way v w) ≡ not (is_below lie)
rising_by p v w Above high from to apart lies =
    let s = in_rows v w in
    let q = placed s p.y high from to in
    let above = above_place s (exchanged_point p) q.place high q.is q.column (lies q.place q.is q.column) in
    lt-ltb _ _ (omega arith)
rising_by p v w At high from to (inl e) lies = cc
rising_by p v w At high from to (inr e) lies = cc
rising_by p v w Below high from to apart lies =
    let s = in_rows v w in
    let q = placed s p.y high from to in
    let under = under_place s (exchanged_point p) q.place high q.is q.column (lies q.place q.is q.column) in
    le-ltb _ _ (omega arith)

-- and of a falling segment where it is right of it
pub falling_by : (p v w : GridPoint) (lie : Lie) → w.y < v.y → w.y ≤ p.y → p.y ≤ v.y → IsApart lie
    → SideUp (in_rows v w) (exchanged_point p) lie → is_right_of p (way v w) ≡ is_below lie
falling_by p v w Above high from to apart lies =
    let s = in_rows w v in
    let q = placed s p.y high from to in
    let lie_so = turned_lie (exchanged_point w) (exchanged_point v) (exchanged_point p) Above lies q.place q.is q.column in
    let above = above_place s (exchanged_point p) q.place high q.is q.column lie_so in
    le-ltb _ _ (omega arith)
falling_by p v w At high from to (inl e) lies = cc
falling_by p v w At high from to (inr e) lies = cc
falling_by p v w Below high from to apart lies =
    let s = in_rows w v in
    let q = placed s p.y high from to in
    let lie_so = turned_lie (exchanged_point w) (exchanged_point v) (exchanged_point p) Below lies q.place q.is q.column in
    let under = under_place s (exchanged_point p) q.place high q.is q.column lie_so in
    lt-ltb _ _ (omega arith)
