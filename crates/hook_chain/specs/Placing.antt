-- How the columns and rows of a walk lie on the grid: from where it starts, along the grid's columns or
-- its rows, in one direction or the other, and with its own rows level or along a diagonal. No public
-- clause cites this file.
use Rattle.std.specs.Prelude.{◌≡◌, ◌⊎◌, ℕ, zero, ◌+◌, ◌-◌, ◌<◌, ◌≤◌, Bool, true, false, not, ◌&&◌, nat_lt}
use Rattle.std.specs.Prelude.{if◌then◌else◌, List, map}
use Rattle.grid_base.specs.Point.{GridPoint, point_at}
use Rattle.grid_base.specs.Segment.{GridSegment, is_flat}
use Rattle.grid_base.specs.Sides.{Side, Left, On, Right, side}
use Rattle.hook_chain.specs.Parts.{Reaches, IsLow, IsPartTo}
use Rattle.hook_chain.specs.declared.charts.Chart.{Chart}

-- the coordinate of p along which the walk goes
abbrev pub course : Bool → GridPoint → ℕ
course steep p = if steep then p.y else p.x

-- and the other one
abbrev pub cross : Bool → GridPoint → ℕ
cross steep p = course (not steep) p

-- how far the rows are moved in column n
abbrev pub moved : Bool → ℕ → ℕ
moved sheared n = if sheared then n else zero

-- the number behind which n is by m, or before which where the walk goes back
abbrev pub passed : Bool → ℕ → ℕ → ℕ
passed back m n = if back then m - n else m + n

-- how far from start the number n is passed
abbrev pub passing : Bool → ℕ → ℕ → ℕ
passing back start n = if back then start - n else n - start

-- the row of the grid for the walk's place in column across and row up
abbrev pub raised : Bool → Bool → ℕ → ℕ → ℕ → ℕ
raised under sheared start across up =
    if under then (start + moved sheared across) - up else (start + up) - moved sheared across

-- and the walk's row for the grid's
abbrev pub rising : Bool → Bool → ℕ → ℕ → ℕ → ℕ
rising under sheared start across n =
    if under then (start + moved sheared across) - n else (n + moved sheared across) - start

-- the point of the grid at the place p of a walk from start
abbrev pub placed : Chart → GridPoint → GridPoint → GridPoint
placed chart start p =
    let along = passed chart.back (course chart.steep start) p.x in
    let beside = raised chart.under chart.sheared (cross chart.steep start) p.x p.y in
    if chart.steep then point_at beside along else point_at along beside

-- the place of a walk from start that is at the point p of the grid
abbrev pub seen : Chart → GridPoint → GridPoint → GridPoint
seen chart start p =
    let across = passing chart.back (course chart.steep start) (course chart.steep p) in
    point_at across (rising chart.under chart.sheared (cross chart.steep start) across (cross chart.steep p))

-- ---- the same as equations
-- the number m of the grid is at the walk's column n
abbrev pub IsAcross : Bool → ℕ → ℕ → ℕ → Type 0
IsAcross false start n m = m ≡ start + n
IsAcross true start n m = m + n ≡ start

-- the other number o of the grid is at the walk's column n and row k
abbrev pub IsUp : Bool → Bool → ℕ → ℕ → ℕ → ℕ → Type 0
IsUp false false start n k o = o ≡ start + k
IsUp false true start n k o = o + n ≡ start + k
IsUp true false start n k o = o + k ≡ start
IsUp true true start n k o = o + k ≡ start + n

-- the point q of the grid is at the place p of a walk from start
pub record IsPlaced (chart : Chart) (start p q : GridPoint) : Type 0 where
  pub across : IsAcross chart.back (course chart.steep start) p.x (course chart.steep q)
  pub up : IsUp chart.under chart.sheared (cross chart.steep start) p.x p.y (cross chart.steep q)

-- ---- the walk to a point
-- the side of the walk's line on which its rows are, seen from its start
abbrev pub side_for : (steep back under : Bool) → Side
side_for false false false = Left
side_for false false true = Right
side_for false true false = Right
side_for false true true = Left
side_for true false false = Right
side_for true false true = Left
side_for true true false = Left
side_for true true true = Right

-- goal is less than 1 above a line that rises by c in d columns, less than a diagonal
pub record IsGoal (c d : ℕ) (goal : GridPoint) : Type 0 where
  pub rising : 0 < c
  pub proper : c < d
  pub above : Reaches c d goal
  pub low : IsLow c d goal
  pub later : 0 < goal.x
  pub gentle : goal.y ≤ goal.x

-- the walk along chart from start leads to the place of x, along the line to end, which rises by c in d
-- columns
pub record IsCharted (chart : Chart) (start end x : GridPoint) (c d : ℕ) (goal : GridPoint) : Type 0 where
  pub goal_is : IsGoal c d goal
  pub end_at : IsPlaced chart start (point_at d c) end
  pub x_at : IsPlaced chart start goal x

-- the walk along chart from start leads to x along the line to end, both where they are seen
abbrev pub IsSeen : Chart → GridPoint → GridPoint → GridPoint → Type 0
IsSeen chart start end x =
    IsCharted chart start end x (seen chart start end).y (seen chart start end).x (seen chart start x)

-- the points of list are those at the places of a part of a hook to goal
pub record IsWalked (chart : Chart) (start : GridPoint) (c d : ℕ) (goal : GridPoint) (list : List GridPoint)
    : Type 0 where
  pub path : List GridPoint
  pub part : IsPartTo c d goal goal path
  pub is : list ≡ map (placed chart start) path

-- list is the part of a hook from start to x beside the line to end
abbrev pub IsWalkedTo : Chart → GridPoint → GridPoint → GridPoint → List GridPoint → Type 0
IsWalkedTo chart start end x list =
    IsWalked chart start (seen chart start end).y (seen chart start end).x (seen chart start x) list

-- whether a walk's rows are to be diagonals, so that its line from start to end rises
abbrev pub are_diagonals : Bool → ℕ → ℕ → Bool
are_diagonals under start end = if under then nat_lt start end else nat_lt end start

-- a walk along chart from t.a goes along t, with its rows on the side of x
pub record IsChartOf (t : GridSegment) (x : GridPoint) (chart : Chart) : Type 0 where
  pub steep : chart.steep ≡ not (is_flat t)
  pub back : chart.back ≡ (chart.steep && nat_lt t.b.y t.a.y)
  pub under : (side t.a t.b x ≡ On) ⊎ (side t.a t.b x ≡ side_for chart.steep chart.back chart.under)
  pub sheared : chart.sheared
      ≡ are_diagonals chart.under (cross chart.steep t.a) (cross chart.steep t.b)

-- the chart of the way back
abbrev pub turned : Chart → Chart
turned chart = record chart { back = not chart.back; sheared = not chart.sheared }
