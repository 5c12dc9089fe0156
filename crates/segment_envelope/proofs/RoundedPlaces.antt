-- That a place of a segment, rounded, is near it, unless the segment is diagonal and the place is the centre of a cell.
use Rattle.std.proofs.Common.{◌≡◌, ◌≢◌, ◌⊎◌, ◌+◌, ◌*◌, ◌<◌, Bool, true, false, refl, inl, inr}
use Rattle.grid_base.specs.Point.{IsBefore}
use Rattle.grid_base.specs.Segment.{GridSegment, is_diagonal}
use Rattle.grid_base.specs.Places.{RationalPoint, IsPlace}
use Rattle.grid_base.specs.MeetPoint.{nearest, rounded, is_centre}
use Rattle.grid_base.proofs.Turns.{leftward, rightward}
use Rattle.grid_base.proofs.Lines.{line_is}
use Rattle.segment_envelope.specs.Near.{Near}
use Rattle.segment_envelope.proofs.Shapes.{diagonal_is, no_diagonal_is}
use Rattle.segment_envelope.proofs.Sizes.{on_line_is_near}
use Rattle.segment_envelope.proofs.HalfSteps.{IsHalfStepFrom, half_in_box, half_is_near}
use Rattle.segment_envelope.proofs.Roundings.{nearest_is_rounded, rounded_half, difference_rounded, sum_rounded, tie_by, no_centre_is}
use Rattle.segment_envelope.proofs.Diagonals.{IsRising, IsFalling, rises_or_falls}
use Rattle.segment_envelope.proofs.Diagonals.{rising_place, falling_place, rising_point, falling_point}

-- the rounded point is at most half a step away, in each axis
rounded_half_step : (q : RationalPoint) → 0 < q.w → IsHalfStepFrom q (rounded q)
rounded_half_step q real = record {
  across = rounded_half q.x q.w _ (nearest_is_rounded q.x q.w real);
  up = rounded_half q.y q.w _ (nearest_is_rounded q.y q.w real);
}

-- a place of a rising diagonal, rounded, is on its line
rising_rounded : (s : GridSegment) (q : RationalPoint) → IsRising s → IsPlace s q
    → leftward s.a s.b (rounded q) ≡ rightward s.a s.b (rounded q)
rising_rounded s q rising place =
    let column = nearest_is_rounded q.x q.w place.real in
    let row = nearest_is_rounded q.y q.w place.real in
    let difference = rising_place s q rising (line_is s q place) in
    rising_point s (rounded q) rising (difference_rounded q.w q.x q.y s.a.x s.a.y _ _ place.real difference column row)

-- where q isn't a centre, not both coordinates are rounded up by half a step
not_both_up : (q : RationalPoint) → 0 < q.w → is_centre q ≡ false
    → (2 * q.w * nearest q.x q.w ≢ 2 * q.x + q.w) ⊎ (2 * q.w * nearest q.y q.w ≢ 2 * q.y + q.w)
not_both_up q real off = elim (no_centre_is q off) [
  | inl across ↦ inl (λ up. across (tie_by q.x q.w _ real up))
  | inr upward ↦ inr (λ up. upward (tie_by q.y q.w _ real up))
]

-- a place of a falling diagonal that isn't a centre, rounded, is on its line
falling_rounded : (s : GridSegment) (q : RationalPoint) → IsFalling s → IsPlace s q → is_centre q ≡ false
    → leftward s.a s.b (rounded q) ≡ rightward s.a s.b (rounded q)
falling_rounded s q falling place off =
    let column = nearest_is_rounded q.x q.w place.real in
    let row = nearest_is_rounded q.y q.w place.real in
    let sum = falling_place s q falling (line_is s q place) in
    falling_point s (rounded q) falling
    (sum_rounded q.w q.x q.y (s.a.x + s.a.y) _ _ place.real sum column row (not_both_up q place.real off))

-- a place of a diagonal that isn't a centre, rounded, is near the diagonal
diagonal_rounded : (s : GridSegment) (q : RationalPoint) → IsBefore s.a s.b → is_diagonal s ≡ true → IsPlace s q → is_centre q ≡ false
    → Near s (rounded q)
diagonal_rounded s q ordered diagonal place off =
    on_line_is_near s _ ordered (half_in_box s q _ place (rounded_half_step q place.real)) line
  where
    line : leftward s.a s.b (rounded q) ≡ rightward s.a s.b (rounded q)
    line = elim (rises_or_falls s ordered (diagonal_is s diagonal)) [
      | inl rising ↦ rising_rounded s q rising place
      | inr falling ↦ falling_rounded s q falling place off
    ]

-- a place of any other segment, rounded, is near it
other_rounded : (s : GridSegment) (q : RationalPoint) → IsBefore s.a s.b → is_diagonal s ≡ false → IsPlace s q → Near s (rounded q)
other_rounded s q ordered other place =
    half_is_near s q (rounded q) ordered (no_diagonal_is s other) place (rounded_half_step q place.real)

-- a place of s, rounded, is near s where s isn't diagonal or the place isn't a centre
pub rounded_near : (s : GridSegment) (q : RationalPoint) → IsBefore s.a s.b → IsPlace s q
    → (is_diagonal s ≡ false) ⊎ (is_centre q ≡ false) → Near s (rounded q)
rounded_near s q ordered place (inl other) = other_rounded s q ordered other place
rounded_near s q ordered place (inr off) = by_shape (is_diagonal s) refl
  where
    by_shape : (diagonal : Bool) → is_diagonal s ≡ diagonal → Near s (rounded q)
    by_shape true diagonal = diagonal_rounded s q ordered diagonal place off
    by_shape false other = other_rounded s q ordered other place
