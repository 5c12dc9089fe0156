-- This file shows that what is gathered by the places of numbers are the segments that have them.
use Rattle.std.proofs.Common.{◌≡◌, ℕ, suc, ◌<◌, ◌==◌, Bool, if◌then◌else◌, List, [], ◌∷◌, length}
use Rattle.std.proofs.Common.{slice_index, refl, sym, ap, ◌∙◌, arith, inl, inr, ◌⊎◌}
use Rattle.std.specs.List.Sorted.{IsStrictlyIncreasing}
use Rattle.std.proofs.lemmas.List.Kept.{AllPairs-from_increasing}
use Rattle.grid_base.specs.Segment.{GridSegment}
use Rattle.r_blocks.specs.Places.{those}
use Rattle.r_faces.specs.Parted.{ArePlacesIn}

-- tests that agree keep the same segments
pub those_alike : (p n : ℕ) (places numbers : List ℕ) (list : List GridSegment) → length places ≡ length list
    → length numbers ≡ length list → ((i : ℕ) → i < length list → (p == slice_index places i) ≡ (n == slice_index numbers i))
    → those p places list ≡ those n numbers list
those_alike p n [] [] [] e f h = refl
those_alike p n [] (m ∷ numbers) [] e f h = absurd (omega (arith, f))
those_alike p n (q ∷ places) numbers [] e f h = absurd (omega (arith, e))
those_alike p n [] numbers (s ∷ list) e f h = absurd (omega (arith, e))
those_alike p n (q ∷ places) [] (s ∷ list) e f h = absurd (omega (arith, f))
those_alike p n (q ∷ places) (m ∷ numbers) (s ∷ list) e f h =
    let rest = those_alike p n places numbers list (omega (arith, e)) (omega (arith, f)) (λ i l. h (suc i) (omega (arith, l))) in
    ap (λ (b : Bool). if b then s ∷ those p places list else those p places list) (h 0 (omega arith))
    ∙ ap (λ (l : List GridSegment). if n == m then s ∷ l else l) rest

pub apart_below : (keys : List ℕ) (i j : ℕ) → IsStrictlyIncreasing keys → i < length keys → j < length keys
    → slice_index keys i ≡ slice_index keys j → i ≡ j
apart_below keys i j up hi hj e = by (three i j)
  where
    three : (i j : ℕ) → (i < j) ⊎ ((i ≡ j) ⊎ (j < i))
    three i j = grind arith

    by : (i < j) ⊎ ((i ≡ j) ⊎ (j < i)) → i ≡ j
    by (inl l) = let u = AllPairs-from_increasing keys up i j 0 l hj in absurd (omega (arith, u, e))
    by (inr (inl l)) = l
    by (inr (inr l)) = let u = AllPairs-from_increasing keys up j i 0 l hi in absurd (omega (arith, u, e))

equal_tests : (a b c d : ℕ) → (a ≡ b → c ≡ d) → (c ≡ d → a ≡ b) → (a == b) ≡ (c == d)
equal_tests a b c d f g = grind (arith, f, g)

-- those of the place of a key are those of its number
pub those_of_key : (keys numbers places : List ℕ) (list : List GridSegment) (k : ℕ) → IsStrictlyIncreasing keys
    → ArePlacesIn keys numbers (length numbers) places → length numbers ≡ length list → k < length keys
    → those k places list ≡ those (slice_index keys k) numbers list
those_of_key keys numbers places list k up h e within =
    those_alike k (slice_index keys k) places numbers list (h.one_each ∙ e) e
    (λ i l. let p = h.each i (omega (arith, l, e)) in
    equal_tests k (slice_index places i) (slice_index keys k) (slice_index numbers i)
    (λ same. ap (slice_index keys) same ∙ p.1) (λ same. apart_below keys k (slice_index places i) up within p.0 (same ∙ sym p.1)))
