-- That of two diagonals that cross, one rises and the other falls.
use Rattle.std.proofs.Common.{◌≡◌, ◌⊎◌, ◌↔◌, ℕ, ◌+◌, ◌*◌, Bool, true, false, IsTrue, MatchBool, not, refl, ap, arith, inl, inr}
use Rattle.std.proofs.lemmas.Bool.Decides.{nat_tests}
use Rattle.grid_base.specs.Point.{IsBefore}
use Rattle.grid_base.specs.Segment.{GridSegment, is_diagonal}
use Rattle.grid_base.specs.Crossing.{Cross}
use Rattle.grid_rational.specs.Meeting.{IsRising, IsFalling}
use Rattle.grid_rational.proofs.Crossings.{IsCrossedBy, First, Second, crosses_is}

-- s rises by one row a column
abbrev RisesEvenly : GridSegment → Type 0
RisesEvenly s = s.b.x + s.a.y ≡ s.a.x + s.b.y

-- s falls by one row a column
abbrev FallsEvenly : GridSegment → Type 0
FallsEvenly s = s.b.x + s.b.y ≡ s.a.x + s.a.y

-- two segments that rise by one row a column are parallel
not_rising_both : (s t : GridSegment) → RisesEvenly s → RisesEvenly t → IsCrossedBy s t → ⊥
not_rising_both s t s_rises t_rises crossed =
    let s_to = ap (λ (n : ℕ). n * t.b.y) s_rises in
    let s_from = ap (λ (n : ℕ). n * t.a.y) s_rises in
    let t_to = ap (λ (n : ℕ). n * s.b.y) t_rises in
    let t_from = ap (λ (n : ℕ). n * s.a.y) t_rises in
    omega (arith, crossed.a_left.sums, crossed.a_left.above_0, crossed.b_right.sums)

-- and so are two that fall by one row a column
not_falling_both : (s t : GridSegment) → FallsEvenly s → FallsEvenly t → IsCrossedBy s t → ⊥
not_falling_both s t s_falls t_falls crossed =
    let s_to = ap (λ (n : ℕ). n * t.b.y) s_falls in
    let s_from = ap (λ (n : ℕ). n * t.a.y) s_falls in
    let t_to = ap (λ (n : ℕ). n * s.b.y) t_falls in
    let t_from = ap (λ (n : ℕ). n * s.a.y) t_falls in
    omega (arith, crossed.a_left.sums, crossed.a_left.above_0, crossed.b_right.sums)

-- a diagonal rises by one row a column, or falls by one
diagonal_is : (s : GridSegment) → IsBefore s.a s.b → IsTrue (is_diagonal s)
    → (IsRising s × RisesEvenly s) ⊎ (IsFalling s × FallsEvenly s)
diagonal_is s ordered diagonal = grind (arith, nat_tests)

-- of two diagonals that cross, one rises and the other falls
pub one_falls : (s t : GridSegment) → Cross s t → IsBefore s.a s.b → IsBefore t.a t.b → IsTrue (is_diagonal s) → IsTrue (is_diagonal t)
    → (IsFalling s × IsRising t) ⊎ (IsRising s × IsFalling t)
one_falls s t cross s_ordered t_ordered s_diagonal t_diagonal = elim (diagonal_is s s_ordered s_diagonal) [
  | inl s_rises ↦ elim (diagonal_is t t_ordered t_diagonal) [
    | inl t_rises ↦ elim (crosses_is s t cross) [
      | First crossed ↦ absurd (not_rising_both s t s_rises.1 t_rises.1 crossed)
      | Second crossed ↦ absurd (not_rising_both t s t_rises.1 s_rises.1 crossed)
    ]
    | inr t_falls ↦ inr (s_rises.0, t_falls.0)
  ]
  | inr s_falls ↦ elim (diagonal_is t t_ordered t_diagonal) [
    | inl t_rises ↦ inl (s_falls.0, t_rises.0)
    | inr t_falls ↦ elim (crosses_is s t cross) [
      | First crossed ↦ absurd (not_falling_both s t s_falls.1 t_falls.1 crossed)
      | Second crossed ↦ absurd (not_falling_both t s t_falls.1 s_falls.1 crossed)
    ]
  ]
]

-- the first falls where it doesn't rise
pub falls_by : (s t : GridSegment) (rises : Bool) → IsTrue rises ↔ IsRising s → (IsFalling s × IsRising t) ⊎ (IsRising s × IsFalling t)
    → MatchBool (not rises) (IsFalling s × IsRising t) (IsRising s × IsFalling t)
falls_by s t true rising one = elim one [ inl first ↦ absurd (omega (arith, rising.0 refl)) | inr second ↦ second ]
falls_by s t false rising one = elim one [ inl first ↦ first | inr second ↦ absurd (cc (rising.1 second.0)) ]
