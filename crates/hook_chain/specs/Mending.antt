-- What a step asks of a drawing, and when it may be taken.
use Rattle.std.specs.Prelude.{◌≡◌, ◌⊎◌, ◌<◌, IsTrue}
use Rattle.grid_base.specs.Point.{GridPoint}
use Rattle.grid_base.specs.Segment.{GridSegment, IsSegmentBefore, is_diagonal}
use Rattle.grid_base.specs.Crossing.{Inside, Cross}
use Rattle.grid_base.specs.MeetPoint.{MeetPoint, IsCell, crossing_of}
use Rattle.grid_base.specs.Drawing.{Drawing, IsPoint, IsPiece}
use Rattle.grid_base.specs.declared.kinds.Step.{Step}
use Rattle.grid_base.specs.declared.kinds.Step.TheVariants.{Split, Meet, Corner}
use Rattle.hook_chain.specs.Steps.{Permitted}

-- the step may be taken in d
abbrev pub IsPermitted : Drawing → Step → Type 0
IsPermitted d step = (new : Drawing) × Permitted d step new

-- what a step asks of its point and its pieces by themselves
abbrev pub IsMending : Step → Type 0
IsMending (Split p t) = Inside p t
IsMending (Meet t u x) = IsSegmentBefore t u × MeetPoint t u x
IsMending (Corner t u) =
    Cross t u × IsTrue (is_diagonal t) × (t.a.y < t.b.y) × IsTrue (is_diagonal u) × (u.b.y < u.a.y)
    × (z : GridPoint) × IsCell (crossing_of t u) z

-- its point is a point of d, and its pieces are pieces
abbrev pub HasParts : Drawing → Step → Type 0
HasParts d (Split p t) = IsPoint d p × IsPiece d t
HasParts d (Meet t u x) = IsPiece d t × IsPiece d u
HasParts d (Corner t u) = IsPiece d t × IsPiece d u

-- s is a piece of the step
abbrev pub IsPieceOf : Step → GridSegment → Type 0
IsPieceOf (Split p t) s = s ≡ t
IsPieceOf (Meet t u x) s = (s ≡ t) ⊎ (s ≡ u)
IsPieceOf (Corner t u) s = (s ≡ t) ⊎ (s ≡ u)

-- the step mends the crossing of the pieces t and u
pub record MendsCrossing (t u : GridSegment) (step : Step) : Type 0 where
  pub mending : IsMending step
  pub parts : (d : Drawing) → IsPiece d t → IsPiece d u → HasParts d step
