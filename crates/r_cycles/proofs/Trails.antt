-- This file shows that a trail stays marked as it goes on, and as it is cut back.
use Rattle.std.proofs.Common.{◌≡◌, ◌≢◌, ◌⊎◌, ◌↔◌, ℕ, ◌+◌, ◌<◌, suc, List, [], ◌∷◌, ◌++◌, length, get_or, take, drop, Contains, AllPairs}
use Rattle.std.proofs.Common.{sym, ap, subst, ◌∙◌, inl, inr, arith, drop-cons, ⊎_elim}
use Rattle.std.proofs.lemmas.List.{take-append-drop, take_more}
use Rattle.std.proofs.lemmas.List.Elements.{Contains-push, Contains-push_cases, Contains-append_left, Contains-append_right}
use Rattle.std.proofs.lemmas.List.Elements.{Contains-append_cases, Contains-get_or}
use Rattle.std.proofs.lemmas.List.Quantifiers.{all_pairs_push}
use Rattle.std.proofs.lemmas.List.Kept.{AllPairs-cons}
use Rattle.grid_base.specs.Point.{GridPoint}
use Rattle.r_cycles.specs.Trail.{IsMarked}
use Rattle.grid_base.proofs.Elements.{Contains-here, Contains-cases, Contains-nil}

-- the points of the list are different
abbrev pub AreApart : List GridPoint → Type 0
AreApart points = AllPairs (λ v w. v ≢ w) points

-- the first of different points isn't among the later ones
pub apart-head : (v : GridPoint) (points : List GridPoint) → AreApart (v ∷ points) → Contains points v → ⊥
apart-head v points apart there = apart 0 (suc there.0) v (omega arith) (omega (arith, there.1)) (sym there.2)

pub apart-tail : (v : GridPoint) (points : List GridPoint) → AreApart (v ∷ points) → AreApart points
apart-tail v points apart i j d before within = apart (suc i) (suc j) d (omega arith) (omega arith)

-- points that come later are not among those before
pub apart-append : (front back : List GridPoint) → AreApart (front ++ back) → (p : GridPoint) → Contains front p → Contains back p → ⊥
apart-append [] back apart p before after = Contains-nil p before
apart-append (v ∷ front) back apart p before after = ⊎_elim
    (λ same. apart-head v (front ++ back) apart (Contains-append_right front back v (subst (Contains back) (sym same) after)))
    (λ rest. apart-append front back (apart-tail v (front ++ back) apart) p rest after)
    (Contains-cases v front p before)

pub apart-right : (front back : List GridPoint) → AreApart (front ++ back) → AreApart back
apart-right [] back apart = apart
apart-right (v ∷ front) back apart = apart-right front back (apart-tail v (front ++ back) apart)

-- one more point, which isn't there
pub apart-push : (points : List GridPoint) (p : GridPoint) → AreApart points → (Contains points p → ⊥) → AreApart (points ++ p ∷ [])
apart-push points p apart new =
    all_pairs_push (λ v w. v ≢ w) points p apart (λ k d within same. new (subst (Contains points) same (Contains-get_or points k d within)))

pub apart-left : (front back : List GridPoint) → AreApart (front ++ back) → AreApart front
apart-left [] back apart = λ i j d before within. absurd (omega (arith, within))
apart-left (v ∷ front) back apart = AllPairs-cons (λ v w. v ≢ w) v front
    (λ k d within same.
    let there = subst (Contains front) (sym same) (Contains-get_or front k d within) in
    apart-head v (front ++ back) apart (Contains-append_left front back v there))
    (apart-left front back (apart-tail v (front ++ back) apart))

-- ---- a trail with its marks
-- it goes on
pub marked_on : (points marks more : List GridPoint) (p : GridPoint) → IsMarked points marks → (Contains points p → ⊥)
    → ((q : GridPoint) → Contains more q ↔ ((q ≡ p) ⊎ Contains marks q)) → IsMarked (points ++ p ∷ []) more
marked_on points marks more p marked new puts = record {
  once = apart-push points p marked.once new;
  marked = λ q. (
    λ there. ⊎_elim
        (λ same. subst (Contains (points ++ p ∷ [])) (sym same) (Contains-push points p))
        (λ was. Contains-append_left points (p ∷ []) q ((marked.marked q).0 was))
        ((puts q).0 there),
    λ there. ⊎_elim
        (λ was. (puts q).1 (inr ((marked.marked q).1 was)))
        (λ same. (puts q).1 (inl (sym same)))
        (Contains-push_cases points p q there),
  );
}

-- it is cut back
pub marked_back : (front back marks fewer : List GridPoint) (p : GridPoint) → IsMarked (front ++ p ∷ back) marks
    → ((q : GridPoint) → Contains fewer q ↔ (Contains marks q × (Contains (p ∷ back) q → ⊥))) → IsMarked front fewer
marked_back front back marks fewer p marked takes = record {
  once = apart-left front (p ∷ back) marked.once;
  marked = λ q. (
    λ there.
        let was = (takes q).0 there in ⊎_elim (λ before. before) (λ after. absurd (was.1 after))
        (Contains-append_cases front (p ∷ back) q ((marked.marked q).0 was.0)),
    λ there. (takes q).1 (
      (marked.marked q).1 (Contains-append_left front (p ∷ back) q there),
      apart-append front (p ∷ back) marked.once q there,
    ),
  );
}

-- where p stands, a list is what stands before it, p and what stands after it
pub split_at : {X : Type 0} (xs : List X) (k : ℕ) (x : X) → k < length xs → get_or xs k x ≡ x
    → (xs ≡ take k xs ++ x ∷ drop (suc k) xs) × (drop k xs ≡ x ∷ drop (suc k) xs)
split_at xs k x within is =
    let rest : drop k xs ≡ x ∷ drop (suc k) xs = drop-cons xs k x within ∙ ap (λ y. y ∷ drop (suc k) xs) is in
    (sym (take-append-drop k xs) ∙ ap (λ ys. take k xs ++ ys) rest, rest)

-- what was cut off is unmarked, and p is marked again
pub marked_cut : (points marks fewer more : List GridPoint) (k : ℕ) (p : GridPoint) → k < length points → get_or points k p ≡ p
    → IsMarked points marks → ((q : GridPoint) → Contains fewer q ↔ (Contains marks q × (Contains (drop k points) q → ⊥)))
    → ((q : GridPoint) → Contains more q ↔ ((q ≡ p) ⊎ Contains fewer q)) → IsMarked (take k points ++ p ∷ []) more
marked_cut points marks fewer more k p within is marked takes puts =
    let parts = split_at points k p within is in
    let whole = subst (λ ps. IsMarked ps marks) parts.0 marked in
    let cut = marked_back (take k points) (drop (suc k) points) marks fewer p whole
    (λ q. subst (λ ps. Contains fewer q ↔ (Contains marks q × (Contains ps q → ⊥))) parts.1 (takes q)) in
    let new = λ (there : Contains (take k points) p).
    apart-append (take k points) (p ∷ drop (suc k) points) whole.once p there (Contains-here p (drop (suc k) points)) in
    marked_on (take k points) fewer more p cut new puts

-- ---- marks that are taken, one after another
-- one more of the points is unmarked
pub unmarked_more : (points old marks fewer : List GridPoint) (i : ℕ) (p : GridPoint) → i < length points → p ≡ get_or points i p
    → ((q : GridPoint) → Contains marks q ↔ (Contains old q × (Contains (take i points) q → ⊥)))
    → ((q : GridPoint) → Contains fewer q ↔ (Contains marks q × (q ≡ p → ⊥)))
    → (q : GridPoint) → Contains fewer q ↔ (Contains old q × (Contains (take (i + 1) points) q → ⊥))
unmarked_more points old marks fewer i p within here so_far takes q =
    let more = take_more points i p within ∙ ap (λ v. take i points ++ v ∷ []) (sym here) in (
      λ there.
          let was = (takes q).0 there in
          let before = (so_far q).0 was.0 in (
            before.0,
            λ done. ⊎_elim before.1 (λ same. was.1 (sym same))
                (Contains-push_cases (take i points) p q (subst (λ ps. Contains ps q) more done)),
          ),
      λ both.
          let gone = λ (there : Contains (take i points ++ p ∷ []) q). both.1 (subst (λ ps. Contains ps q) (sym more) there) in
          let still = (so_far q).1 (both.0, λ done. gone (Contains-append_left (take i points) (p ∷ []) q done)) in
          (takes q).1 (
            still,
            λ same.
                gone (subst (Contains (take i points ++ p ∷ [])) (sym same) (Contains-push (take i points) p)),
          ),
    )
