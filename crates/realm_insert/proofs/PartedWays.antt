-- This file shows that two segments that lead different ways from a common end make no violation.
use Rattle.std.proofs.Common.{◌≡◌, ◌≢◌, ◌⊎◌, refl, sym, subst, ◌∙◌, arith, inl, inr}
use Rattle.grid_base.specs.Point.{GridPoint, IsBefore}
use Rattle.grid_base.specs.Segment.{GridSegment, IsEnd}
use Rattle.grid_base.specs.Sides.{On, side}
use Rattle.grid_base.specs.Crossing.{Inside}
use Rattle.grid_base.specs.Drawing.{Drawing}
use Rattle.grid_base.proofs.Crossings.{cross_no_end}
use Rattle.grid_base.proofs.Ends.{not_before_itself}
use Rattle.grid_base.proofs.Turns.{on_is, on_by}
use Rattle.realm_insert.specs.Clashes.{NoClash, PartWays}

-- three points on one line are so in each order
on_swapped : (v w p : GridPoint) → side v w p ≡ On → side w v p ≡ On
on_swapped v w p on = let same = on_is v w p on in on_by w v p (omega (arith, same))

on_turned : (v w p : GridPoint) → side v w p ≡ On → side w p v ≡ On
on_turned v w p on = let same = on_is v w p on in on_by w p v (omega (arith, same))

-- the line of s is that of its ends in either order
on_ends : (s : GridSegment) (o p q : GridPoint) → IsEnd o s → IsEnd p s → p ≢ o → side o p q ≡ On → side s.a s.b q ≡ On
on_ends s o p q (inl o_a) (inl p_a) differ on = absurd (differ (p_a ∙ sym o_a))
on_ends s o p q (inl o_a) (inr p_b) differ on =
    subst (λ (v : GridPoint). side s.a v q ≡ On) p_b (subst (λ (v : GridPoint). side v p q ≡ On) o_a on)
on_ends s o p q (inr o_b) (inl p_a) differ on =
    subst (λ (v : GridPoint). side s.a v q ≡ On) o_b (subst (λ (v : GridPoint). side v o q ≡ On) p_a (on_swapped o p q on))
on_ends s o p q (inr o_b) (inr p_b) differ on = absurd (differ (p_b ∙ sym o_b))

-- and that is the line of any two ends
ends_on : (s : GridSegment) (o p q : GridPoint) → IsEnd o s → IsEnd p s → p ≢ o → side s.a s.b q ≡ On → side o p q ≡ On
ends_on s o p q (inl o_a) (inl p_a) differ on = absurd (differ (p_a ∙ sym o_a))
ends_on s o p q (inl o_a) (inr p_b) differ on =
    subst (λ (v : GridPoint). side v p q ≡ On) (sym o_a) (subst (λ (v : GridPoint). side s.a v q ≡ On) (sym p_b) on)
ends_on s o p q (inr o_b) (inl p_a) differ on =
    on_swapped p o q (subst (λ (v : GridPoint). side v o q ≡ On) (sym p_a) (subst (λ (v : GridPoint). side s.a v q ≡ On) (sym o_b) on))
ends_on s o p q (inr o_b) (inr p_b) differ on = absurd (differ (p_b ∙ sym o_b))

-- where an end of s is on the line of t, the other end of t is on that of s
on_line_too : (s t : GridSegment) (o p q : GridPoint) → IsEnd o s → IsEnd p s → p ≢ o → IsEnd o t → IsEnd q t → q ≢ o
    → side t.a t.b p ≡ On → side s.a s.b q ≡ On
on_line_too s t o p q o_s p_s differ o_t q_t other on =
    on_ends s o p q o_s p_s differ (on_swapped p o q (on_turned q p o (on_turned o q p (ends_on t o q p o_t q_t other on))))

-- the end of t that isn't o
other_end : (t : GridSegment) (o : GridPoint) → IsBefore t.a t.b → IsEnd o t → (q : GridPoint) × (IsEnd q t × (q ≢ o))
other_end t o before (inl o_a) = (t.b, (inr refl, λ same. not_before_itself t.a t.b (sym (same ∙ o_a)) before))
other_end t o before (inr o_b) = (t.a, (inl refl, λ same. not_before_itself t.a t.b (same ∙ o_b) before))

-- no end is inside
not_inside_end : (s : GridSegment) (p : GridPoint) → IsEnd p s → Inside p s → ⊥
not_inside_end s p (inl first) inside = inside.not_a first
not_inside_end s p (inr last) inside = inside.not_b last

-- a segment has two ends alone
same_other : (s : GridSegment) (o p q : GridPoint) → IsEnd o s → IsEnd p s → IsEnd q s → p ≢ o → q ≢ o → p ≡ q
same_other s o p q (inl o_a) (inl p_a) q_s p_o q_o = absurd (p_o (p_a ∙ sym o_a))
same_other s o p q (inl o_a) (inr p_b) (inl q_a) p_o q_o = absurd (q_o (q_a ∙ sym o_a))
same_other s o p q (inl o_a) (inr p_b) (inr q_b) p_o q_o = p_b ∙ sym q_b
same_other s o p q (inr o_b) (inl p_a) (inl q_a) p_o q_o = p_a ∙ sym q_a
same_other s o p q (inr o_b) (inl p_a) (inr q_b) p_o q_o = absurd (q_o (q_b ∙ sym o_b))
same_other s o p q (inr o_b) (inr p_b) q_s p_o q_o = absurd (p_o (p_b ∙ sym o_b))

-- an end of s that were inside t would put the other end of t on the line of s
none_inside : (s t : GridSegment) (p : GridPoint) → IsBefore t.a t.b → PartWays s t → IsEnd p s → Inside p t → ⊥
none_inside s t p before ways p_s inside =
    let o = ways.common in
    let other = other_end t o before ways.of_t in
    let q = other.0 in
    let differ : p ≢ o = λ same. not_inside_end t p (subst (λ (v : GridPoint). IsEnd v t) (sym same) ways.of_t) inside in
    elim (ways.apart q other.1.0) [
      | inl q_s ↦ not_inside_end t p
          (subst (λ (v : GridPoint). IsEnd v t) (sym (same_other s o p q ways.of_s p_s q_s differ other.1.1)) other.1.0) inside
      | inr off ↦ off (on_line_too s t o p q ways.of_s p_s differ ways.of_t other.1.0 other.1.1 inside.on.line)
    ]

-- so there is no violation
pub part_clear : (d : Drawing) (s t : GridSegment) → IsBefore t.a t.b → PartWays s t → NoClash d s t
part_clear d s t before ways = record {
  no_end_of_s = λ p end point inside. none_inside s t p before ways end inside;
  no_end_of_t = λ p end point inside. elim (ways.apart p end) [
    | inl is ↦ not_inside_end s p is inside
    | inr off ↦ off inside.on.line
  ];
  no_crossing = λ cross. cross_no_end s t ways.common cross ways.of_s ways.of_t;
}

-- ---- what the tests tell
-- one end of t is one of s, and the other is, too, or off its line
pub part_by_first : (s t : GridSegment) → IsEnd t.a s → (IsEnd t.b s ⊎ (side s.a s.b t.b ≢ On)) → PartWays s t
part_by_first s t a_s other = record {
  common = t.a;
  of_s = a_s;
  of_t = inl refl;
  apart = λ p end. elim end [
    | inl first ↦ inl (subst (λ (v : GridPoint). IsEnd v s) (sym first) a_s)
    | inr last ↦ subst (λ (v : GridPoint). IsEnd v s ⊎ (side s.a s.b v ≢ On)) (sym last) other
  ];
}

pub part_by_last : (s t : GridSegment) → IsEnd t.b s → (IsEnd t.a s ⊎ (side s.a s.b t.a ≢ On)) → PartWays s t
part_by_last s t b_s other = record {
  common = t.b;
  of_s = b_s;
  of_t = inr refl;
  apart = λ p end. elim end [
    | inl first ↦ subst (λ (v : GridPoint). IsEnd v s ⊎ (side s.a s.b v ≢ On)) (sym first) other
    | inr last ↦ inl (subst (λ (v : GridPoint). IsEnd v s) (sym last) b_s)
  ];
}
