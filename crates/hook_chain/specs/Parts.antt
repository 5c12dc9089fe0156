-- A part of a hook in columns and rows of its own: it leads from the origin along a line that rises
-- less than a diagonal, to a point less than 1 above the line. No public clause cites this file.
use Rattle.std.specs.Prelude.{ℕ, ◌+◌, ◌*◌, ◌<◌, ◌≤◌, pos, ◌<ℤ◌, List}
use Rattle.std.specs.List.{AllByRecursion}
use Rattle.grid_base.specs.Point.{GridPoint, point_at}
use Rattle.grid_base.specs.Sides.{turn}
use Rattle.hook_chain.specs.Chains.{AllLinks, AllBends, RunsFrom}

-- p is on or above the line that rises by c in d columns
abbrev pub Reaches : ℕ → ℕ → GridPoint → Type 0
Reaches c d p = c * p.x ≤ d * p.y

-- p is less than 1 above that line
abbrev pub IsLow : ℕ → ℕ → GridPoint → Type 0
IsLow c d p = d * p.y < c * p.x + d

-- w is in a later column than v
abbrev pub IsLater : GridPoint → GridPoint → Type 0
IsLater v w = v.x < w.x

-- the link from v to w rises, and at most as a diagonal
abbrev pub IsGentle : GridPoint → GridPoint → Type 0
IsGentle v w = (v.y ≤ w.y) × (w.y + v.x ≤ w.x + v.y)

-- the way from u by v to w bends to the left
abbrev pub BendsLeft : GridPoint → GridPoint → GridPoint → Type 0
BendsLeft u v w = pos 0 <ℤ turn u v w

-- no grid point is on or above the line and strictly under the link
abbrev pub IsBareLink : ℕ → ℕ → GridPoint → GridPoint → Type 0
IsBareLink c d v w = (p : GridPoint) → v.x ≤ p.x → p.x ≤ w.x → Reaches c d p → turn v w p <ℤ pos 0 → ⊥

-- p lies before x, not above it and not above the way from the origin to it, and no way steeper than a
-- diagonal leads from the origin to p, nor from p to x
pub record IsInReach (x p : GridPoint) : Type 0 where
  pub before : p.x ≤ x.x
  pub not_above : p.y ≤ x.y
  pub under_chord : p.y * x.x ≤ x.y * p.x
  pub from_origin : p.y ≤ p.x
  pub to_x : p.x + x.y ≤ x.x + p.y

-- path leads from the origin to z, on the way to x
pub record IsPartTo (c d : ℕ) (x z : GridPoint) (path : List GridPoint) : Type 0 where
  pub leads : RunsFrom (point_at 0 0) z path
  pub later : AllLinks IsLater path
  pub gentle : AllLinks IsGentle path
  pub bends : AllBends BendsLeft path
  pub reaches : AllByRecursion (Reaches c d) path
  pub in_reach : AllByRecursion (IsInReach x) path
  pub bare : AllLinks (IsBareLink c d) path
