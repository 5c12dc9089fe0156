-- That how two segments meet is one answer, and the same whichever is named first.
use Rattle.std.proofs.Common.{◌≡◌, ◌↔◌, Bool, true, false, ◌&&◌, if◌then◌else◌, IsTrue, MatchBool, not}
use Rattle.std.proofs.Common.{Option, Some, None, refl, ap, sym, subst, ◌∙◌}
use Rattle.grid_base.specs.Point.{GridPoint, IsBefore}
use Rattle.grid_base.specs.Segment.{GridSegment, is_diagonal}
use Rattle.grid_base.specs.Crossing.{Cross}
use Rattle.grid_base.specs.Places.{RationalPoint}
use Rattle.grid_base.specs.MeetPoint.{MeetPoint, IsCell, crossing_of, corner_on, rounded, is_centre, meet_at}
use Rattle.grid_base.proofs.Crossings.{Cross-swap}
use Rattle.grid_rational.specs.Meeting.{IsRising, IsFalling, IsCornerOf}
use Rattle.grid_rational.proofs.Crossings.{crossing-swap}
use Rattle.grid_rational.proofs.Diagonals.{one_falls, falls_by}

-- what meets where it is a centre, and the first or the second is diagonal
abbrev chosen : Bool → Bool → Bool → Option GridPoint → Option GridPoint → Option GridPoint → Option GridPoint
chosen centre first second on_first on_second other =
    if centre && first && second then None
    else if centre && first then on_first
    else if centre && second then on_second
    else other

-- the choice doesn't depend on the order
chosen-swap : (centre first second : Bool) (on_first on_second other : Option GridPoint)
    → chosen centre second first on_second on_first other ≡ chosen centre first second on_first on_second other
chosen-swap true true true on_first on_second other = refl
chosen-swap true true false on_first on_second other = refl
chosen-swap true false true on_first on_second other = refl
chosen-swap true false false on_first on_second other = refl
chosen-swap false first second on_first on_second other = refl

-- nor does the point at which two segments meet
meet_at-swap : (s t : GridSegment) (q : RationalPoint) → meet_at t s q ≡ meet_at s t q
meet_at-swap s t q =
    chosen-swap (is_centre q) (is_diagonal s) (is_diagonal t) (Some (corner_on s q)) (Some (corner_on t q)) (Some (rounded q))

-- the meet point is the same whichever segment is named first
pub meet_point-swap : (s t : GridSegment) (m : GridPoint) → MeetPoint s t m → MeetPoint t s m
meet_point-swap s t m meets = record {
  cross = Cross-swap s t meets.cross;
  at = ap (meet_at t s) (crossing-swap s t meets.cross) ∙ meet_at-swap s t (crossing_of s t) ∙ meets.at;
}

-- two diagonals have no meet point at a centre
none_by : (s t : GridSegment) (q : RationalPoint) → IsTrue (is_centre q) → IsTrue (is_diagonal s) → IsTrue (is_diagonal t)
    → meet_at s t q ≡ None
none_by s t q centre s_diagonal t_diagonal = rw (centre, s_diagonal, t_diagonal) refl

-- two diagonals that cross at a centre are those of its cell
pub corner_by : (s t : GridSegment) (z : GridPoint) (rises : Bool) → Cross s t → IsBefore s.a s.b → IsBefore t.a t.b
    → IsTrue (is_centre (crossing_of s t)) → IsTrue (is_diagonal s) → IsTrue (is_diagonal t) → IsCell (crossing_of s t) z
    → IsTrue rises ↔ IsRising s → IsCornerOf s t z (not rises)
corner_by s t z rises cross s_ordered t_ordered centre s_diagonal t_diagonal cell rising = record {
  crossing = record { cross = cross; none = none_by s t (crossing_of s t) centre s_diagonal t_diagonal };
  cell = cell;
  diagonal = (s_diagonal, t_diagonal);
  falling = falls_by s t rises rising (one_falls s t cross s_ordered t_ordered s_diagonal t_diagonal);
}

-- the falling one is the second where the names are exchanged
falling-swap : (s t : GridSegment) (falling_first : Bool)
    → MatchBool falling_first (IsFalling s × IsRising t) (IsRising s × IsFalling t)
    → MatchBool (not falling_first) (IsFalling t × IsRising s) (IsRising t × IsFalling s)
falling-swap s t true falling = (falling.1, falling.0)
falling-swap s t false falling = (falling.1, falling.0)

-- the corner is the same whichever segment is named first
pub corner-swap : (s t : GridSegment) (z : GridPoint) (falling_first : Bool) → IsCornerOf s t z falling_first
    → IsCornerOf t s z (not falling_first)
corner-swap s t z falling_first corner =
    let cross = corner.crossing.cross in
    let same = crossing-swap s t cross in
    record {
      crossing = record {
        cross = Cross-swap s t cross;
        none = ap (meet_at t s) same ∙ meet_at-swap s t (crossing_of s t) ∙ corner.crossing.none;
      };
      cell = subst (λ (q : RationalPoint). IsCell q z) (sym same) corner.cell;
      diagonal = (corner.diagonal.1, corner.diagonal.0);
      falling = falling-swap s t falling_first corner.falling;
    }
