-- This file shows which segments stand at a place, and that they ascend and are those of a realm as the list's are.
use Rattle.std.proofs.Common.{◌≡◌, ℕ, zero, suc, ◌<◌, ◌==◌, Bool, true, false, cond, List, [], ◌∷◌}
use Rattle.std.proofs.Common.{length, get_or, Contains, refl, subst, inl, inr, ⊎_elim, arith}
use Rattle.std.proofs.lemmas.Bool.Decides.{nat_tests}
use Rattle.std.proofs.lemmas.List.Elements.{Contains-get_or}
use Rattle.std.proofs.lemmas.List.Kept.{AllPairs-cons}
use Rattle.grid_base.specs.Segment.{GridSegment, IsSegmentBefore}
use Rattle.grid_base.specs.Border.{AreNoded}
use Rattle.grid_base.proofs.Elements.{Contains-here, Contains-later, Contains-cases}
use Rattle.rose_values.specs.Border.{AreSegmentsAscending}
use Rattle.r_blocks.specs.Places.{those}

-- ---- the segments of a place
-- the segment s stands in the list, and its place is p
pub record StandsAt (p : ℕ) (places : List ℕ) (list : List GridSegment) (s : GridSegment) : Type 0 where
  pub at : ℕ
  pub within : at < length list
  pub place : get_or places at 0 ≡ p
  pub is : get_or list at s ≡ s

stands_later : (p q : ℕ) (places : List ℕ) (t : GridSegment) (list : List GridSegment) (s : GridSegment)
    → StandsAt p places list s → StandsAt p (q ∷ places) (t ∷ list) s
stands_later p q places t list s stands =
    record { at = suc stands.at; within = omega (arith, stands.within); place = stands.place; is = stands.is }

pub those_stand : (p : ℕ) (places : List ℕ) (list : List GridSegment) (s : GridSegment)
    → Contains (those p places list) s → StandsAt p places list s
those_stand p [] list s there = absurd (omega (arith, there.1))
those_stand p (q ∷ places) [] s there = absurd (omega (arith, there.1))
those_stand p (q ∷ places) (t ∷ list) s there = by (p == q) refl there (those_stand p places list s)
  where
    by : (b : Bool) → (p == q) ≡ b → Contains (cond b (t ∷ those p places list) (those p places list)) s
        → (Contains (those p places list) s → StandsAt p places list s) → StandsAt p (q ∷ places) (t ∷ list) s
    by true e found rest = ⊎_elim
        (λ same. record { at = 0; within = grind arith; place = grind (arith, nat_tests); is = same })
        (λ later. stands_later p q places t list s (rest later))
        (Contains-cases t (those p places list) s found)
    by false e found rest = stands_later p q places t list s (rest found)

pub those_have : (p : ℕ) (places : List ℕ) (list : List GridSegment) (k : ℕ) (d : GridSegment) → length places ≡ length list
    → k < length list → get_or places k 0 ≡ p → Contains (those p places list) (get_or list k d)
those_have p [] [] k d even within place = absurd (omega (arith, within))
those_have p [] (t ∷ list) k d even within place = absurd (omega (arith, even))
those_have p (q ∷ places) [] k d even within place = absurd (omega (arith, within))
those_have p (q ∷ places) (t ∷ list) zero d even within place =
    let here : (p == q) ≡ true = grind (arith, nat_tests) in rw here (Contains-here t (those p places list))
those_have p (q ∷ places) (t ∷ list) (suc k) d even within place =
    by (p == q) (those_have p places list k d (omega (arith, even)) (omega (arith, within)) place)
  where
    by : (b : Bool) → Contains (those p places list) (get_or list k d)
        → Contains (cond b (t ∷ those p places list) (those p places list)) (get_or list k d)
    by true rest = Contains-later t (those p places list) (get_or list k d) rest
    by false rest = rest

-- they are segments of the list
those_part : (p : ℕ) (places : List ℕ) (list : List GridSegment) (s : GridSegment) → Contains (those p places list) s → Contains list s
those_part p places list s there =
    let stands = those_stand p places list s there in (stands.at, stands.within, stands.is)

-- and ascend as the list does
pub those_ascend : (p : ℕ) (places : List ℕ) (list : List GridSegment) → AreSegmentsAscending list
    → AreSegmentsAscending (those p places list)
those_ascend p [] list ascending = λ i j d before within. absurd (omega (arith, within))
those_ascend p (q ∷ places) [] ascending = λ i j d before within. absurd (omega (arith, within))
those_ascend p (q ∷ places) (t ∷ list) ascending =
    by (p == q) (those_ascend p places list (λ i j d before within. ascending (suc i) (suc j) d (omega arith) (omega arith)))
  where
    after : (k : ℕ) (d : GridSegment) → k < length (those p places list) → IsSegmentBefore t (get_or (those p places list) k d)
    after k d within =
        let there = those_part p places list _ (Contains-get_or (those p places list) k d within) in
        let first = ascending 0 (suc there.0) (get_or (those p places list) k d) (omega arith) (omega (arith, there.1)) in
        subst (IsSegmentBefore t) there.2 first

    by : (b : Bool) → AreSegmentsAscending (those p places list)
        → AreSegmentsAscending (cond b (t ∷ those p places list) (those p places list))
    by true rest = AllPairs-cons IsSegmentBefore t (those p places list) after rest
    by false rest = rest

-- and are those of a realm as the list's are
pub those_noded : (p : ℕ) (places : List ℕ) (list : List GridSegment) → AreNoded list → AreNoded (those p places list)
those_noded p places list noded = record {
  ends_are_points = λ s there. (
    (there.0, s, there.1, there.2, inl refl),
    (there.0, s, there.1, there.2, inr refl),
  );
  no_point_inside = λ v s (k, t, within, is, end) there inside.
      let t_there = those_part p places list t (k, within, is) in
      noded.no_point_inside v s (t_there.0, t, t_there.1, t_there.2, end) (those_part p places list s there) inside;
  only_ends_in_common = λ s t q s_there t_there.
      noded.only_ends_in_common s t q (those_part p places list s s_there) (those_part p places list t t_there);
}
