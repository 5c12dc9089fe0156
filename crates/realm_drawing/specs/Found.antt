-- What the search for a violation finds. No public clause cites this file.
use Rattle.std.specs.Prelude.{◌⊎◌, List}
use Rattle.grid_base.specs.Point.{GridPoint, IsBefore}
use Rattle.grid_base.specs.Segment.{GridSegment}
use Rattle.grid_base.specs.Crossing.{Inside, Cross}
use Rattle.grid_base.specs.Drawing.{Drawing, HasLink, IsPoint, IsPiece}
use Rattle.grid_base.specs.declared.original.Original.{Original}
use Rattle.grid_base.specs.declared.kinds.Step.{Step}
use Rattle.hook_chain.specs.Mending.{IsMending, HasParts}
use Rattle.hook_chain.specs.Chains.{IsBetween}

-- the drawing with these explicit points and originals
abbrev pub drawing_of : List GridPoint → List Original → Drawing
drawing_of points originals = record { points = points; originals = originals }

-- P holds of no segment between v and w
abbrev pub NoneBetween : (GridSegment → Type 0) → GridPoint → GridPoint → Type 0
NoneBetween P v w = (t : GridSegment) → IsBetween t v w → P t → ⊥

-- P holds of a segment between v and w
abbrev pub SomeBetween : (GridSegment → Type 0) → GridPoint → GridPoint → Type 0
SomeBetween P v w = (t : GridSegment) × IsBetween t v w × P t

-- P holds of no link of the chain
abbrev pub NoLink : (GridSegment → Type 0) → List GridPoint → Type 0
NoLink P chain = (t : GridSegment) → HasLink chain t → IsBefore t.a t.b → P t → ⊥

-- P holds of some link of the chain
abbrev pub SomeLink : (GridSegment → Type 0) → List GridPoint → Type 0
SomeLink P chain = (t : GridSegment) × HasLink chain t × IsBefore t.a t.b × P t

-- a point of d is inside t, or a piece of d crosses t
abbrev pub IsViolated : Drawing → GridSegment → Type 0
IsViolated d t = ((p : GridPoint) × IsPoint d p × Inside p t) ⊎ ((u : GridSegment) × IsPiece d u × Cross t u)

-- the step mends a violation of t, if t is a piece of d
abbrev pub MendsPiece : Drawing → GridSegment → Step → Type 0
MendsPiece d t step = IsMending step × (IsPiece d t → HasParts d step)
