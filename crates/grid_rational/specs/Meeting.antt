-- How two segments meet: at a grid point, at the centre of a cell with the diagonals of both, or
-- not at all.
use Rattle.std.specs.Prelude.{◌≡◌, ◌<◌, Bool, IsTrue, MatchBool, None}
use Rattle.grid_base.specs.Point.{GridPoint}
use Rattle.grid_base.specs.Segment.{GridSegment, is_diagonal}
use Rattle.grid_base.specs.Crossing.{Cross}
use Rattle.grid_base.specs.MeetPoint.{MeetPoint, IsCell, crossing_of, meet_at}
use Rattle.grid_rational.specs.declared.meeting.Meet.{Meet}
use Rattle.grid_rational.specs.declared.meeting.Meet.TheVariants.{At, Corner, Apart}

-- s rises from its lesser end to its greater
abbrev pub IsRising : GridSegment → Type 0
IsRising s = s.a.y < s.b.y

-- s falls from its lesser end to its greater
abbrev pub IsFalling : GridSegment → Type 0
IsFalling s = s.b.y < s.a.y

-- s and t cross without a meet point
pub record CrossAtCorner (s t : GridSegment) : Type 0 where
  pub cross : Cross s t
  pub none : meet_at s t (crossing_of s t) ≡ None

-- s and t cross along the two diagonals of the cell with the lower left corner z. Where
-- falling_first is true s is the falling one, and else t.
pub record IsCornerOf (s t : GridSegment) (z : GridPoint) (falling_first : Bool) : Type 0 where
  pub crossing : CrossAtCorner s t
  pub cell : IsCell (crossing_of s t) z
  pub diagonal : IsTrue (is_diagonal s) × IsTrue (is_diagonal t)
  pub falling : MatchBool falling_first (IsFalling s × IsRising t) (IsRising s × IsFalling t)

-- the answer is how s and t meet
abbrev pub IsMeeting : GridSegment → GridSegment → Meet → Type 0
IsMeeting s t (At m) = MeetPoint s t m
IsMeeting s t (Corner z falling_first) = IsCornerOf s t z falling_first
IsMeeting s t Apart = Cross s t → ⊥

-- the answer names a corner
abbrev pub IsCorner : Meet → Type 0
IsCorner (At m) = ⊥
IsCorner (Corner z falling_first) = Unit {0}
IsCorner Apart = ⊥
