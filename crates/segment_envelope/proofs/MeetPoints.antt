-- That the meet point of two segments that cross is near both: it is the crossing, rounded, or the corner on a diagonal.
use Rattle.std.proofs.Common.{◌≡◌, ◌⊎◌, Bool, true, false, ◌&&◌, Some, None, refl, subst, inl, inr, if◌then◌else◌}
use Rattle.grid_base.specs.Point.{GridPoint, IsBefore}
use Rattle.grid_base.specs.Segment.{GridSegment, is_diagonal}
use Rattle.grid_base.specs.Places.{RationalPoint, IsPlace}
use Rattle.grid_base.specs.MeetPoint.{MeetPoint, rounded, is_centre, corner_on, meet_at, crossing_of}
use Rattle.grid_base.proofs.Crossings.{crossing_is_common}
use Rattle.segment_envelope.specs.Near.{Near}
use Rattle.segment_envelope.proofs.Corners.{corner_near, own_corner_near}
use Rattle.segment_envelope.proofs.RoundedPlaces.{rounded_near}

-- s isn't diagonal, or q isn't a centre
abbrev IsRoundable : GridSegment → RationalPoint → Type 0
IsRoundable s q = (is_diagonal s ≡ false) ⊎ (is_centre q ≡ false)

-- what the rule for the meet point takes: the corner on one diagonal, or the rounded crossing
data Taken (s t : GridSegment) (q : RationalPoint) (m : GridPoint) : Type 0 where
  CornerOfFirst : is_centre q ≡ true → is_diagonal s ≡ true → is_diagonal t ≡ false → corner_on s q ≡ m → Taken s t q m
  CornerOfSecond : is_centre q ≡ true → is_diagonal s ≡ false → is_diagonal t ≡ true → corner_on t q ≡ m → Taken s t q m
  Rounded : IsRoundable s q → IsRoundable t q → rounded q ≡ m → Taken s t q m

-- the rule takes one of these, by its three tests
taken : (s t : GridSegment) (q : RationalPoint) (m : GridPoint) → meet_at s t q ≡ Some m → Taken s t q m
taken s t q m at = by_tests (is_centre q) (is_diagonal s) (is_diagonal t) refl refl refl at
  where
    by_tests : (centre first second : Bool) → is_centre q ≡ centre → is_diagonal s ≡ first → is_diagonal t ≡ second
        → (if centre && first && second then None
        else if centre && first then Some (corner_on s q)
        else if centre && second then Some (corner_on t q)
        else Some (rounded q)) ≡ Some m
        → Taken s t q m
    by_tests true true true centre first second is = cc
    by_tests true true false centre first second is = CornerOfFirst centre first second cc
    by_tests true false true centre first second is = CornerOfSecond centre first second cc
    by_tests true false false centre first second is = Rounded (inl first) (inl second) cc
    by_tests false first_is second_is centre first second is = Rounded (inr centre) (inr centre) cc

-- what is taken at a common place is near both
taken_near : (s t : GridSegment) (q : RationalPoint) (m : GridPoint) → IsBefore s.a s.b → IsBefore t.a t.b → IsPlace s q → IsPlace t q
    → Taken s t q m → Near s m × Near t m
taken_near s t q m s_ordered t_ordered on_s on_t (CornerOfFirst centre first second is) =
    subst (λ (p : GridPoint). Near s p × Near t p) is
    (own_corner_near s q s_ordered first on_s centre, corner_near s t q t_ordered second on_t centre)
taken_near s t q m s_ordered t_ordered on_s on_t (CornerOfSecond centre first second is) =
    subst (λ (p : GridPoint). Near s p × Near t p) is
    (corner_near t s q s_ordered first on_s centre, own_corner_near t q t_ordered second on_t centre)
taken_near s t q m s_ordered t_ordered on_s on_t (Rounded first second is) =
    subst (λ (p : GridPoint). Near s p × Near t p) is
    (rounded_near s q s_ordered on_s first, rounded_near t q t_ordered on_t second)

-- the meet point is near both, since the crossing is a common place
pub meet_point_near : (s t : GridSegment) (m : GridPoint) → IsBefore s.a s.b → IsBefore t.a t.b → MeetPoint s t m → Near s m × Near t m
meet_point_near s t m s_ordered t_ordered meet =
    let common = crossing_is_common s t meet.cross in
    taken_near s t (crossing_of s t) m s_ordered t_ordered common.0 common.1 (taken s t (crossing_of s t) m meet.at)
