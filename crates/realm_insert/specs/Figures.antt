-- What a change draws: points that become explicit and segments of new originals.
use Rattle.std.specs.Prelude.{◌≡◌, List, [], ◌∷◌, map}
use Rattle.grid_base.specs.Point.{GridPoint}
use Rattle.grid_base.specs.Segment.{GridSegment}
use Rattle.grid_base.specs.declared.kinds.Kind.{Kind}
use Rattle.grid_base.specs.declared.kinds.Kind.TheVariants as kinds
use Rattle.line_grammar.specs.declared.command.Change.{Change}
use Rattle.line_grammar.specs.declared.command.Change.TheVariants.{Point, Points, Regions, Let}
use Rattle.rose_values.specs.declared.geometry.Geometry.{Geometry}
use Rattle.rose_values.specs.declared.geometry.Geometry.TheVariants.{P, L, R}
use Rattle.realm_insert.specs.Lines.{grid_point, written_segments}
use Rattle.realm_insert.specs.Operands.{IsMadeOfNamed}
use Rattle.realm_insert.specs.State.{State}

-- points that become explicit, segments of new originals, in order, and the kind of the value that they may make
pub record Figure : Type 0 where
  pub kind : Kind
  pub points : List GridPoint
  pub segments : List GridSegment

-- these points alone
abbrev pub of_points : List GridPoint → Figure
of_points points = record { kind = kinds.Points; points = points; segments = [] }

-- these segments alone, for a value of this kind
abbrev pub of_segments : Kind → List GridSegment → Figure
of_segments kind segments = record { kind = kind; points = []; segments = segments }

-- a geometry drawn again
abbrev pub figure_of : Geometry → Figure
figure_of (P points) = of_points points
figure_of (L lines) = of_segments kinds.Lines lines
figure_of (R border) = of_segments kinds.Regions border

-- what the line of a change writes
abbrev pub figure_written : Change → Figure
figure_written (Point p) = of_points (grid_point p ∷ [])
figure_written (Points name path) = of_points (map grid_point path)
figure_written (Regions name cycles) = of_segments kinds.Regions (written_segments (Regions name cycles))
figure_written c = of_segments kinds.Lines (written_segments c)

-- What the change draws in s. By an operator it draws again what the operator makes of the values.
abbrev pub Draws : Change → State → Figure → Type 0
Draws (Let name op first second) s figure =
    (made : Geometry) × IsMadeOfNamed op first second s made × (figure ≡ figure_of made)
Draws c s figure = figure ≡ figure_written c
