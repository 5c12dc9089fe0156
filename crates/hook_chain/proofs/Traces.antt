-- The points of the grid that the walk has come by.
use Rattle.std.proofs.Common.{◌≡◌, ℕ, ◌+◌, ◌-◌, ◌*◌, ◌/◌, ◌<◌, ◌≤◌, Bool, true, false, if◌then◌else◌, List, [], ◌∷◌, ◌++◌, map, refl}
use Rattle.std.proofs.Common.{sym, ap, subst, ◌∙◌, arith}
use Rattle.grid_base.specs.Grid.{grid_side}
use Rattle.grid_base.specs.Point.{GridPoint, point_at, OnGrid}
use Rattle.hook_chain.specs.declared.charts.Chart.{Chart}
use Rattle.hook_chain.specs.Fractions.{IsLeastAbove}
use Rattle.hook_chain.specs.Parts.{IsInReach}
use Rattle.hook_chain.specs.Placing.{course, cross, passed, raised, placed, seen, IsAcross, IsUp, IsPlaced, IsCharted, IsSeen, IsWalked}
use Rattle.hook_chain.specs.Placing.{IsWalkedTo}
use Rattle.hook_chain.proofs.Paths.{vertices_last}
use Rattle.hook_chain.proofs.Placings.{placed_one, placed_is, start_placed}
use Rattle.hook_chain.proofs.PlacedParts.{origin_in_reach}
use Rattle.hook_chain.proofs.Walks.{away, IsWalk, begin, go_on, come}

-- the points of list are those of a walk that has come to z, on the way to the place of x
pub record IsTraced (chart : Chart) (start end x : GridPoint) (c d : ℕ) (goal z : GridPoint) (list : List GridPoint) : Type 0 where
  pub charted : IsCharted chart start end x c d goal
  pub path : List GridPoint
  pub walk : IsWalk c d goal z path
  pub is : list ≡ map (placed chart start) path

-- the places that the code has seen are those of the line and of x
as_seen : (chart : Chart) (start end x line goal : GridPoint) → line ≡ seen chart start end → goal ≡ seen chart start x
    → IsSeen chart start end x
    → IsCharted chart start end x line.y line.x goal
as_seen chart start end x line goal line_is goal_is charted =
    subst (λ (p : GridPoint). IsCharted chart start end x p.y p.x goal) (sym line_is)
    (subst (λ (p : GridPoint). IsCharted chart start end x (seen chart start end).y (seen chart start end).x p) (sym goal_is) charted)

-- the start is at the origin
start_at_origin : (chart : Chart) (start end x : GridPoint) (c d : ℕ) (goal : GridPoint) → IsCharted chart start end x c d goal
    → start ≡ placed chart start (point_at 0 0)
start_at_origin chart start end x c d goal charted =
    placed_one chart start (point_at 0 0) start (placed chart start (point_at 0 0)) (start_placed chart start)
    (placed_is chart start goal x (point_at 0 0) charted.x_at (origin_in_reach goal charted.goal_is.gentle))

-- the walk begins with the start
pub traced_start : (chart : Chart) (start end x line goal : GridPoint) (list : List GridPoint) → line ≡ seen chart start end
    → goal ≡ seen chart start x
    → IsSeen chart start end x → list ≡ start ∷ [] → IsTraced chart start end x line.y line.x goal (point_at 0 0) list
traced_start chart start end x line goal list line_is goal_is seen_there is =
    let charted = as_seen chart start end x line goal line_is goal_is seen_there in
    record {
      charted = charted;
      path = point_at 0 0 ∷ [];
      walk = begin line.y line.x goal charted.goal_is;
      is = is ∙ ap (λ (p : GridPoint). p ∷ []) (start_at_origin chart start end x line.y line.x goal charted);
    }

-- a point more
map_push : (f : GridPoint → GridPoint) (path : List GridPoint) (p : GridPoint) → map f (path ++ p ∷ []) ≡ map f path ++ f p ∷ []
map_push f [] p = refl
map_push f (q ∷ path) p = ap (λ (l : List GridPoint). f q ∷ l) (map_push f path p)

-- the walk goes on by whole steps of the least slope
abbrev IsNext : GridPoint → GridPoint → ℕ → ℕ → ℕ → ℕ → Type 0
IsNext goal z p q across up = (across ≡ z.x + (goal.x - z.x) / q * q) × (up ≡ z.y + (goal.x - z.x) / q * p)

-- a step of the walk: it is before the goal, and has found the least slope
pub record IsStep (c d p q : ℕ) (goal z : GridPoint) (across up : ℕ) : Type 0 where
  pub before : z.x < goal.x
  pub least : IsLeastAbove c d (goal.x - z.x) p q
  pub next : IsNext goal z p q across up

-- the place that a step leads to
step_to : (c d p q : ℕ) (goal z : GridPoint) (across up : ℕ) → IsStep c d p q goal z across up
    → point_at across up ≡ away z ((goal.x - z.x) / q * q) ((goal.x - z.x) / q * p)
step_to c d p q goal z across up step = λ i. point_at (step.next.0 i) (step.next.1 i)

-- the next place of the walk, and its point
pub traced_next : (chart : Chart) (start end x : GridPoint) (c d p q : ℕ) (goal z : GridPoint) (across up : ℕ) (list new : List GridPoint)
    → IsTraced chart start end x c d goal z list → IsStep c d p q goal z across up
    → new ≡ list ++ placed chart start (point_at across up) ∷ []
    → IsTraced chart start end x c d goal (point_at across up) new
traced_next chart start end x c d p q goal z across up list new traced step is =
    let w = point_at across up in
    let walk = go_on c d p q ((goal.x - z.x) / q) goal z traced.path traced.charted.goal_is traced.walk step.before step.least refl in
    record {
      charted = traced.charted;
      path = traced.path ++ w ∷ [];
      walk = subst (λ (v : GridPoint). IsWalk c d goal v (traced.path ++ v ∷ [])) (sym (step_to c d p q goal z across up step)) walk;
      is = is ∙ ap (λ (l : List GridPoint). l ++ placed chart start w ∷ []) traced.is ∙ sym (map_push (placed chart start) traced.path w);
    }

-- the next place is in reach of the goal
pub next_in_reach : (chart : Chart) (start end x : GridPoint) (c d p q : ℕ) (goal z : GridPoint) (across up : ℕ) (list : List GridPoint)
    → IsTraced chart start end x c d goal z list → IsStep c d p q goal z across up → IsInReach goal (point_at across up)
next_in_reach chart start end x c d p q goal z across up list traced step =
    let next = away z ((goal.x - z.x) / q * q) ((goal.x - z.x) / q * p) in
    let walk = go_on c d p q ((goal.x - z.x) / q) goal z traced.path traced.charted.goal_is traced.walk step.before step.least refl in
    subst (λ (v : GridPoint). IsInReach goal v) (sym (step_to c d p q goal z across up step))
    (vertices_last (IsInReach goal) next traced.path walk.part.in_reach)

-- at the end the points are those of the part, along the line and to the place that the code has seen
pub traced_end : (chart : Chart) (start end x line goal z : GridPoint) (list : List GridPoint) → line ≡ seen chart start end
    → goal ≡ seen chart start x
    → IsTraced chart start end x line.y line.x goal z list → goal.x ≤ z.x → IsWalkedTo chart start end x list
traced_end chart start end x line goal z list line_is goal_is traced at_end =
    let walked : IsWalked chart start line.y line.x goal list =
    record { path = traced.path; part = come line.y line.x goal z traced.path traced.charted.goal_is traced.walk at_end; is = traced.is } in
    subst (λ (p : GridPoint). IsWalked chart start p.y p.x (seen chart start x) list) line_is
    (subst (λ (p : GridPoint). IsWalked chart start line.y line.x p list) goal_is walked)

-- ---- on the grid
passed_below : (back : Bool) (start last end n side : ℕ) → IsAcross back start last end → n ≤ last → start < side → end < side
    → passed back start n < side
passed_below false start last end n side at_end before start_below end_below = omega arith
passed_below true start last end n side at_end before start_below end_below = omega arith

raised_below : (under sheared : Bool) (start end side : ℕ) (x p : GridPoint) → IsUp under sheared start x.x x.y end → IsInReach x p
    → start < side → end < side
    → raised under sheared start p.x p.y < side
raised_below false false start end side x p at_end reach start_below end_below = omega (arith, reach.not_above)
raised_below false true start end side x p at_end reach start_below end_below = omega (arith, reach.from_origin)
raised_below true false start end side x p at_end reach start_below end_below = omega arith
raised_below true true start end side x p at_end reach start_below end_below = omega (arith, reach.to_x)

-- a point is on the grid where its coordinates are, whichever comes first
pub on_grid_by : (steep : Bool) (along beside : ℕ) → along < grid_side → beside < grid_side
    → OnGrid (if steep then point_at beside along else point_at along beside)
on_grid_by false along beside along_below beside_below = record { column = along_below; row = beside_below }
on_grid_by true along beside along_below beside_below = record { column = beside_below; row = along_below }

-- so are both coordinates of a point on the grid
course_below : (steep : Bool) (p : GridPoint) → OnGrid p → course steep p < grid_side
course_below false p on_grid = on_grid.column
course_below true p on_grid = on_grid.row

cross_below : (steep : Bool) (p : GridPoint) → OnGrid p → cross steep p < grid_side
cross_below false p on_grid = on_grid.row
cross_below true p on_grid = on_grid.column

-- a place in reach of the place of a point of the grid has its point on the grid
pub on_grid_placed : (chart : Chart) (start goal x p : GridPoint) → OnGrid start → OnGrid x → IsPlaced chart start goal x → IsInReach goal p
    → OnGrid (placed chart start p)
on_grid_placed chart start goal x p start_on_grid x_on_grid at_x reach = on_grid_by chart.steep _ _
    (passed_below chart.back (course chart.steep start) goal.x (course chart.steep x) p.x grid_side at_x.across reach.before
    (course_below chart.steep start start_on_grid) (course_below chart.steep x x_on_grid))
    (raised_below chart.under chart.sheared (cross chart.steep start) (cross chart.steep x) grid_side goal p at_x.up reach
    (cross_below chart.steep start start_on_grid) (cross_below chart.steep x x_on_grid))
