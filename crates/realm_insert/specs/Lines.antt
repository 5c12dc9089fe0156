-- What a change asks for, as its line writes it: places, pairs of places to draw between, and names.
use Rattle.std.specs.Prelude.{◌≢◌, ◌⊎◌, ◌≤◌, ◌<◌, ℕ, List, [], ◌∷◌, ◌++◌, length, map, Any, Option, Some, None}
use Rattle.std.specs.List.{flat_map}
use Rattle.grid_base.specs.Grid.{grid_side}
use Rattle.grid_base.specs.Point.{GridPoint, point_at}
use Rattle.grid_base.specs.Segment.{GridSegment, segment_of}
use Rattle.line_grammar.specs.declared.command.At.{At}
use Rattle.line_grammar.specs.declared.command.Change.{Change}
use Rattle.line_grammar.specs.declared.command.Change.TheVariants.{Point, Unpoint, Segment, Points}
use Rattle.line_grammar.specs.declared.command.Change.TheVariants.{Lines, Regions, Let}
use Rattle.realm_insert.specs.declared.asked.Ends.{Ends}

-- a coordinate is off the grid
abbrev pub IsOffGrid : At → Type 0
IsOffGrid p = (grid_side ≤ p.x) ⊎ (grid_side ≤ p.y)

abbrev pub grid_point : At → GridPoint
grid_point p = point_at p.x p.y

-- a place that the change writes is off the grid
abbrev pub HasPlaceOffGrid : Change → Type 0
HasPlaceOffGrid (Point p) = IsOffGrid p
HasPlaceOffGrid (Unpoint p) = IsOffGrid p
HasPlaceOffGrid (Segment p q) = IsOffGrid p ⊎ IsOffGrid q
HasPlaceOffGrid (Points name path) = Any IsOffGrid path
HasPlaceOffGrid (Lines name paths) = Any (λ path. Any IsOffGrid path) paths
HasPlaceOffGrid (Regions name cycles) = Any (λ cycle. Any IsOffGrid cycle) cycles
HasPlaceOffGrid _ = ⊥

abbrev pub ends : At → At → Ends
ends p q = record { from = p; to = q }

-- each place of the path and the next one
abbrev pub neighbours : List At → List Ends
neighbours [] = []
neighbours (p ∷ []) = []
neighbours (p ∷ q ∷ path) = ends p q ∷ neighbours (q ∷ path)

-- the same round a cycle, the last place and the first at the end
abbrev pub neighbours_round : List At → List Ends
neighbours_round [] = []
neighbours_round (p ∷ cycle) = neighbours (p ∷ (cycle ++ p ∷ []))

-- the places that a change writes to draw between, in order
abbrev pub drawn_between : Change → List Ends
drawn_between (Segment p q) = ends p q ∷ []
drawn_between (Lines name paths) = flat_map neighbours paths
drawn_between (Regions name cycles) = flat_map neighbours_round cycles
drawn_between _ = []

-- the segment between two places
abbrev pub segment_between : Ends → GridSegment
segment_between e = segment_of (grid_point e.from) (grid_point e.to)

-- the segments that a change writes, in order
abbrev pub written_segments : Change → List GridSegment
written_segments c = map segment_between (drawn_between c)

-- both places are on the grid, and they are two
abbrev pub IsDrawable : Ends → Type 0
IsDrawable e = (IsOffGrid e.from → ⊥) × (IsOffGrid e.to → ⊥) × (e.from ≢ e.to)

-- a path has under two places, or a cycle under three
abbrev pub HasShortList : Change → Type 0
HasShortList (Lines name paths) = Any (λ path. length path < 2) paths
HasShortList (Regions name cycles) = Any (λ cycle. length cycle < 3) cycles
HasShortList _ = ⊥

-- the name that a change defines, if it defines one
abbrev pub name_defined : Change → Option (List ℕ)
name_defined (Points name path) = Some name
name_defined (Lines name paths) = Some name
name_defined (Regions name cycles) = Some name
name_defined (Let name op first second) = Some name
name_defined _ = None

-- the change is made by an operator
abbrev pub IsLet : Change → Type 0
IsLet (Let name op first second) = Unit {0}
IsLet _ = ⊥
