-- This file shows which segments are gathered at each place, and that they keep their order.
use Rattle.std.proofs.Common.{◌≡◌, ◌≢◌, ℕ, ◌+◌, ◌<◌, ◌==◌, Bool, true, false, cond, List, [], ◌∷◌, ◌++◌}
use Rattle.std.proofs.Common.{length, get_or, set, take, refl, sym, ap, ap₂, subst, ◌∙◌, ⊎_elim, arith}
use Rattle.std.proofs.Common.{get_or-set_same, get_or-set_other}
use Rattle.std.proofs.Math.ListN.{length-set}
use Rattle.std.proofs.lemmas.Bool.{cases_eq}
use Rattle.std.proofs.lemmas.Bool.Decides.{nat_tests}
use Rattle.std.proofs.lemmas.List.{take_more, length-take-le}
use Rattle.grid_base.specs.Segment.{GridSegment}
use Rattle.r_blocks.specs.Places.{those, AllIndexed}

same_number : (p q : ℕ) → p ≡ q → (p == q) ≡ true
same_number p q same = grind (arith, nat_tests)

other_number : (p q : ℕ) → p ≢ q → (p == q) ≡ false
other_number p q other = grind (arith, nat_tests)

-- ---- one more segment at the end
those-push_same : (p : ℕ) (places : List ℕ) (list : List GridSegment) (s : GridSegment) → length places ≡ length list
    → those p (places ++ p ∷ []) (list ++ s ∷ []) ≡ those p places list ++ s ∷ []
those-push_same p [] [] s even = rw (same_number p p refl) refl
those-push_same p [] (t ∷ list) s even = absurd (omega (arith, even))
those-push_same p (q ∷ places) [] s even = absurd (omega (arith, even))
those-push_same p (q ∷ places) (t ∷ list) s even = by (p == q) (those-push_same p places list s (omega (arith, even)))
  where
    by : (b : Bool) → those p (places ++ p ∷ []) (list ++ s ∷ []) ≡ those p places list ++ s ∷ []
        → cond b (t ∷ those p (places ++ p ∷ []) (list ++ s ∷ [])) (those p (places ++ p ∷ []) (list ++ s ∷ []))
        ≡ cond b (t ∷ those p places list) (those p places list) ++ s ∷ []
    by true rest = ap (λ ss. t ∷ ss) rest
    by false rest = rest

those-push_other : (p r : ℕ) (places : List ℕ) (list : List GridSegment) (s : GridSegment) → p ≢ r → length places ≡ length list
    → those p (places ++ r ∷ []) (list ++ s ∷ []) ≡ those p places list
those-push_other p r [] [] s other even = rw (other_number p r other) refl
those-push_other p r [] (t ∷ list) s other even = absurd (omega (arith, even))
those-push_other p r (q ∷ places) [] s other even = absurd (omega (arith, even))
those-push_other p r (q ∷ places) (t ∷ list) s other even = by (p == q) (those-push_other p r places list s other (omega (arith, even)))
  where
    by : (b : Bool) → those p (places ++ r ∷ []) (list ++ s ∷ []) ≡ those p places list
        → cond b (t ∷ those p (places ++ r ∷ []) (list ++ s ∷ [])) (those p (places ++ r ∷ []) (list ++ s ∷ []))
        ≡ cond b (t ∷ those p places list) (those p places list)
    by true rest = ap (λ ss. t ∷ ss) rest
    by false rest = rest

-- the part of the segment has it at its end, and the others stay
pub gathered_more : (p k : ℕ) (places : List ℕ) (list : List GridSegment) (s : GridSegment) → length places ≡ length list
    → k < length list → get_or list k s ≡ s
    → ((get_or places k 0 ≡ p) → those p (take (k + 1) places) (take (k + 1) list) ≡ those p (take k places) (take k list) ++ s ∷ [])
    × ((p ≢ get_or places k 0) → those p (take (k + 1) places) (take (k + 1) list) ≡ those p (take k places) (take k list))
gathered_more p k places list s even within here =
    let more_places = take_more places k 0 (omega (arith, even, within)) in
    let more_list = take_more list k s within ∙ ap (λ t. take k list ++ t ∷ []) here in
    let still_even : length (take k places) ≡ length (take k list) =
    length-take-le k places (omega (arith, even, within)) ∙ sym (length-take-le k list (omega (arith, within))) in (
      λ same. ap₂ (those p) (more_places ∙ ap (λ q. take k places ++ q ∷ []) same) more_list
          ∙ those-push_same p (take k places) (take k list) s still_even,
      λ other. ap₂ (those p) more_places more_list
          ∙ those-push_other p (get_or places k 0) (take k places) (take k list) s other still_even,
    )

-- one more segment is put into its part
pub gathered_step : {V : Type 0} (items : V → List GridSegment) (parts : List V) (p k : ℕ) (places : List ℕ) (list : List GridSegment)
    (s : GridSegment) (part more : V) → length places ≡ length list → k < length list → s ≡ get_or list k s
    → get_or places k 0 ≡ p → p < length parts → part ≡ get_or parts p part → items more ≡ items part ++ s ∷ []
    → AllIndexed (λ q v. items v ≡ those q (take k places) (take k list)) parts
    → AllIndexed (λ q v. items v ≡ those q (take (k + 1) places) (take (k + 1) list)) (set parts p more)
gathered_step items parts p k places list s part more even within here at below was grown so_far j d j_below =
    let step = gathered_more j k places list s even within (sym here) in
    ⊎_elim
    (λ (this : j ≡ p).
    let new : get_or (set parts p more) j d ≡ more = ap (λ n. get_or (set parts p more) n d) this ∙ (rw get_or-set_same refl) in
    let old = ap (λ v. items v) was ∙ so_far p part below in
    let here_too = ap (λ n. those n (take k places) (take k list) ++ s ∷ []) (sym this) in
    ap (λ v. items v) new ∙ grown ∙ ap (λ ss. ss ++ s ∷ []) old ∙ here_too ∙ sym (step.0 (at ∙ sym this)))
    (λ (other : j ≢ p).
    let stays : get_or (set parts p more) j d ≡ get_or parts j d = rw get_or-set_other refl in
    ap (λ v. items v) stays ∙ so_far j d (subst (λ n. j < n) (length-set parts p more) j_below)
    ∙ sym (step.1 (λ same. other (same ∙ at))))
    (cases_eq j p)
