-- This file shows that one label more has its place too.
use Rattle.std.proofs.Common.{◌≡◌, ◌⊎◌, ℕ, ◌+◌, ◌-◌, ◌<◌, List, [], ◌∷◌, ◌++◌, length, get_or}
use Rattle.std.proofs.Common.{refl, sym, ap, ◌∙◌, ⊎_elim, arith}
use Rattle.std.proofs.Common.{length-append}
use Rattle.std.proofs.Math.Seq.{get_or-append_right}
use Rattle.std.proofs.lemmas.List.{get_or_append_left}
use Rattle.r_blocks.specs.Places.{AreLeast, ArePlaces}

-- what stands in a list when one more is put behind it
before_last : (xs : List ℕ) (q i : ℕ) → i < length xs → get_or (xs ++ q ∷ []) i 0 ≡ get_or xs i 0
before_last xs q i below = get_or_append_left xs (q ∷ []) 0 i below

last : (xs : List ℕ) (q i : ℕ) → i ≡ length xs → get_or (xs ++ q ∷ []) i 0 ≡ q
last xs q i at =
    let first : i - length xs ≡ 0 = omega (arith, at) in
    get_or-append_right xs (q ∷ []) i 0 (omega (arith, at)) ∙ ap (λ n. get_or (q ∷ []) n 0) first

-- a number up to n is below it or is n
pub up_to : (n k : ℕ) → k < n + 1 → (k < n) ⊎ (k ≡ n)
up_to n k below = grind arith

-- a label that comes first gets a new place
pub placed_new : (n : ℕ) (labels places : List ℕ) (count : ℕ) → AreLeast labels → n < length labels → get_or labels n 0 ≡ n
    → ArePlaces n labels places count → ArePlaces (n + 1) labels (places ++ count ∷ []) (count + 1)
placed_new n labels places count least within itself were = record {
  one_each = simp length-append (omega (arith, were.one_each));
  below = λ k below. ⊎_elim
      (λ earlier. omega (arith, kept k earlier, were.below k earlier))
      (λ here. omega (arith, new k here))
      (up_to n k below);
  by_label = λ i j i_below j_below. ⊎_elim
      (λ i_earlier. ⊎_elim
      (λ j_earlier.
      let was = were.by_label i j i_earlier j_earlier in
      (λ same. was.0 (sym (kept i i_earlier) ∙ same ∙ kept j j_earlier), λ same. kept i i_earlier ∙ was.1 same ∙ sym (kept j j_earlier)))
      (λ j_here. (
        λ same. absurd (omega (arith, kept i i_earlier, new j j_here, same, were.below i i_earlier)),
        λ same. absurd (later i i_earlier (same ∙ ap (λ k. get_or labels k 0) j_here)),
      ))
      (up_to n j j_below))
      (λ i_here. ⊎_elim
      (λ j_earlier. (
        λ same. absurd (omega (arith, kept j j_earlier, new i i_here, same, were.below j j_earlier)),
        λ same. absurd (later j j_earlier (sym same ∙ ap (λ k. get_or labels k 0) i_here)),
      ))
      (λ j_here. (λ same. ap (λ k. get_or labels k 0) (i_here ∙ sym j_here), λ same. new i i_here ∙ sym (new j j_here)))
      (up_to n j j_below))
      (up_to n i i_below);
  first = λ p below. ⊎_elim
      (λ earlier.
      let was = were.first p earlier in (was.0, omega (arith, was.1), was.2, kept was.0 was.1 ∙ was.3))
      (λ here. (n, omega arith, itself, new n refl ∙ sym here))
      (up_to count p below);
  in_order = λ i j before below i_root j_root. ⊎_elim
      (λ (earlier : j < n).
      let i_earlier : i < n = omega (arith, before, earlier) in
      omega (arith, kept i i_earlier, kept j earlier, were.in_order i j before earlier i_root j_root))
      (λ (here : j ≡ n).
      let i_earlier : i < n = omega (arith, before, here) in
      omega (arith, kept i i_earlier, new j here, were.below i i_earlier))
      (up_to n j below);
}
  where
    kept : (k : ℕ) → k < n → get_or (places ++ count ∷ []) k 0 ≡ get_or places k 0
    kept k earlier = before_last places count k (omega (arith, earlier, were.one_each))

    new : (k : ℕ) → k ≡ n → get_or (places ++ count ∷ []) k 0 ≡ count
    new k here = last places count k (omega (arith, here, were.one_each))

    later : (k : ℕ) → k < n → get_or labels k 0 ≡ get_or labels n 0 → ⊥
    later k earlier same = omega (arith, least k (omega (arith, earlier, within)), same, itself, earlier)

-- a label that was there has the place that it had
pub placed_again : (n : ℕ) (labels places : List ℕ) (count : ℕ) → AreLeast labels → n < length labels → get_or labels n 0 < n
    → ArePlaces n labels places count → ArePlaces (n + 1) labels (places ++ get_or places (get_or labels n 0) 0 ∷ []) count
placed_again n labels places count least within lower were = record {
  one_each = simp length-append (omega (arith, were.one_each));
  below = λ k below. ⊎_elim
      (λ earlier. omega (arith, kept k earlier, were.below k earlier))
      (λ here. omega (arith, new k here, were.below first_of lower))
      (up_to n k below);
  by_label = λ i j i_below j_below. ⊎_elim
      (λ i_earlier. ⊎_elim
      (λ j_earlier.
      let was = were.by_label i j i_earlier j_earlier in
      (λ same. was.0 (sym (kept i i_earlier) ∙ same ∙ kept j j_earlier), λ same. kept i i_earlier ∙ was.1 same ∙ sym (kept j j_earlier)))
      (λ j_here.
      let was = were.by_label i first_of i_earlier lower in (
        λ same. was.0 (sym (kept i i_earlier) ∙ same ∙ new j j_here) ∙ label_of j j_here,
        λ same. kept i i_earlier ∙ was.1 (same ∙ sym (label_of j j_here)) ∙ sym (new j j_here),
      ))
      (up_to n j j_below))
      (λ i_here. ⊎_elim
      (λ j_earlier.
      let was = were.by_label first_of j lower j_earlier in (
        λ same. sym (label_of i i_here) ∙ was.0 (sym (new i i_here) ∙ same ∙ kept j j_earlier),
        λ same. new i i_here ∙ was.1 (label_of i i_here ∙ same) ∙ sym (kept j j_earlier),
      ))
      (λ j_here. (λ same. ap (λ k. get_or labels k 0) (i_here ∙ sym j_here), λ same. new i i_here ∙ sym (new j j_here)))
      (up_to n j j_below))
      (up_to n i i_below);
  first = λ p below.
      let was = were.first p below in (was.0, omega (arith, was.1), was.2, kept was.0 was.1 ∙ was.3);
  in_order = λ i j before below i_root j_root. ⊎_elim
      (λ (earlier : j < n).
      let i_earlier : i < n = omega (arith, before, earlier) in
      omega (arith, kept i i_earlier, kept j earlier, were.in_order i j before earlier i_root j_root))
      (λ (here : j ≡ n). absurd (omega (arith, here, lower, j_root, ap (λ k. get_or labels k 0) here)))
      (up_to n j below);
}
  where
    first_of : ℕ
    first_of = get_or labels n 0

    kept : (k : ℕ) → k < n → get_or (places ++ get_or places first_of 0 ∷ []) k 0 ≡ get_or places k 0
    kept k earlier = before_last places (get_or places first_of 0) k (omega (arith, earlier, were.one_each))

    new : (k : ℕ) → k ≡ n → get_or (places ++ get_or places first_of 0 ∷ []) k 0 ≡ get_or places first_of 0
    new k here = last places (get_or places first_of 0) k (omega (arith, here, were.one_each))

    label_of : (k : ℕ) → k ≡ n → get_or labels first_of 0 ≡ get_or labels k 0
    label_of k here = (least n within).1 ∙ ap (λ m. get_or labels m 0) (sym here)
