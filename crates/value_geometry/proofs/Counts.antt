-- This file shows how often a segment stands in a list without repeats, and that two ascending lists of the same
-- numbers are as long.
use Rattle.std.proofs.Common.{◌≡◌, ◌≢◌, ◌⊎◌, ◌↔◌, ℕ, suc, ◌+◌, ◌<◌, Bool, true, false, cond, List, [], ◌∷◌, ◌++◌}
use Rattle.std.proofs.Common.{length}
use Rattle.std.proofs.Common.{All, AllPairs, Contains, count_by, refl, sym, ap, ◌∙◌, subst, inl, inr, arith}
use Rattle.std.proofs.lemmas.List.Elements.{All-contains}
use Rattle.std.proofs.lemmas.List.Sums.{sum_by-cons, sum_by-append}
use Rattle.grid_base.specs.Segment.{GridSegment}
use Rattle.grid_base.proofs.Elements.{Contains-here, Contains-later, Contains-cases, Contains-nil}
use Rattle.grid_base.proofs.Orders.{is_segment, is_segment-same, is_segment-itself}

-- ---- the first of a list, and the rest
pub AllPairs-head : {X : Type 0} (R : X → X → Type 0) (x : X) (xs : List X) → AllPairs R (x ∷ xs) → All (R x) xs
AllPairs-head R x xs pairs = λ k d within. pairs 0 (suc k) d (omega arith) (omega arith)

pub AllPairs-tail : {X : Type 0} (R : X → X → Type 0) (x : X) (xs : List X) → AllPairs R (x ∷ xs) → AllPairs R xs
AllPairs-tail R x xs pairs = λ i j d before within. pairs (suc i) (suc j) d (omega arith) (omega arith)

-- the first counts where it passes the test
pub count_first : {X : Type 0} (test : X → Bool) (x : X) (xs : List X) (b : Bool) → test x ≡ b
    → count_by test (x ∷ xs) ≡ cond b 1 0 + count_by test xs
count_first test x xs b is =
    sum_by-cons (λ y. cond (test y) 1 0) x xs ∙ ap (λ c. cond c 1 0 + count_by test xs) is

pub count_yes : {X : Type 0} (test : X → Bool) (x : X) (xs : List X) → test x ≡ true
    → count_by test (x ∷ xs) ≡ 1 + count_by test xs
count_yes test x xs is = count_first test x xs true is

pub count_no : {X : Type 0} (test : X → Bool) (x : X) (xs : List X) → test x ≡ false
    → count_by test (x ∷ xs) ≡ count_by test xs
count_no test x xs is = let same = count_first test x xs false is in omega (arith, same)

pub count-append : {X : Type 0} (test : X → Bool) (xs ys : List X)
    → count_by test (xs ++ ys) ≡ count_by test xs + count_by test ys
count-append test xs ys = sum_by-append (λ x. cond (test x) 1 0) xs ys

-- ---- a segment in a list
-- s stands once in the list, or not at all
abbrev pub IsOnceOrNot : List GridSegment → GridSegment → Type 0
IsOnceOrNot xs s = (Contains xs s × (count_by (is_segment s) xs ≡ 1))
    ⊎ ((Contains xs s → ⊥) × (count_by (is_segment s) xs ≡ 0))

-- so it is in a list without repeats
pub once_or_not : (xs : List GridSegment) → AllPairs (λ t u. t ≢ u) xs → (s : GridSegment) → IsOnceOrNot xs s
once_or_not [] apart s = inr (Contains-nil s, refl)
once_or_not (x ∷ xs) apart s =
    by (is_segment s x) refl (once_or_not xs (AllPairs-tail (λ t u. t ≢ u) x xs apart) s)
  where
    by : (b : Bool) → is_segment s x ≡ b → IsOnceOrNot xs s → IsOnceOrNot (x ∷ xs) s
    by true is (inl (there, once)) =
        absurd (All-contains (λ u. x ≢ u) xs s (AllPairs-head (λ t u. t ≢ u) x xs apart) there (sym (is_segment-same s x is)))
    by true is (inr (gone, none)) =
        inl (
          subst (Contains (x ∷ xs)) (sym (is_segment-same s x is)) (Contains-here x xs),
          count_yes (is_segment s) x xs is ∙ ap (λ n. 1 + n) none,
        )
    by false is (inl (there, once)) =
        inl (Contains-later x xs s there, count_no (is_segment s) x xs is ∙ once)
    by false is (inr (gone, none)) =
        let other : x ≡ s → ⊥ = λ same. cc (is, subst (λ t. is_segment s t ≡ true) (sym same) (is_segment-itself s)) in
        inr (
          λ there. elim (Contains-cases x xs s there) [ inl here ↦ other here | inr later ↦ gone later ],
          count_no (is_segment s) x xs is ∙ none,
        )

-- ---- ascending numbers
abbrev pub AreAscending : List ℕ → Type 0
AreAscending ns = AllPairs (λ m n. m < n) ns

first_below : (m : ℕ) (ms : List ℕ) → AreAscending (m ∷ ms) → (n : ℕ) → Contains ms n → m < n
first_below m ms ascending n there =
    All-contains (λ k. m < k) ms n (AllPairs-head (λ i j. i < j) m ms ascending) there

-- the first is the least, so two lists of the same numbers have the same one
same_first : (m n : ℕ) (ms ns : List ℕ) → AreAscending (m ∷ ms) → AreAscending (n ∷ ns)
    → ((k : ℕ) → Contains (m ∷ ms) k ↔ Contains (n ∷ ns) k) → m ≡ n
same_first m n ms ns first second same =
    elim (Contains-cases n ns m ((same m).0 (Contains-here m ms))) [
      | inl here ↦ sym here
      | inr later ↦ elim (Contains-cases m ms n ((same n).1 (Contains-here n ns))) [
        | inl here ↦ here
        | inr after ↦
            let below = first_below n ns second m later in
            let above = first_below m ms first n after in
            absurd (omega arith)
      ]
    ]

same_rest : (m n : ℕ) (ms ns : List ℕ) → m ≡ n → AreAscending (m ∷ ms) → (k : ℕ)
    → (Contains (m ∷ ms) k → Contains (n ∷ ns) k) → Contains ms k → Contains ns k
same_rest m n ms ns same ascending k into there =
    elim (Contains-cases n ns k (into (Contains-later m ms k there))) [
      | inl here ↦ let below = first_below m ms ascending k there in absurd (omega arith)
      | inr later ↦ later
    ]

-- two ascending lists of the same numbers are as long
pub same_length : (ms ns : List ℕ) → AreAscending ms → AreAscending ns → ((k : ℕ) → Contains ms k ↔ Contains ns k)
    → length ms ≡ length ns
same_length [] [] first second same = refl
same_length [] (n ∷ ns) first second same = absurd (Contains-nil n ((same n).1 (Contains-here n ns)))
same_length (m ∷ ms) [] first second same = absurd (Contains-nil m ((same m).0 (Contains-here m ms)))
same_length (m ∷ ms) (n ∷ ns) first second same =
    let firsts = same_first m n ms ns first second same in
    let rests : (k : ℕ) → Contains ms k ↔ Contains ns k = λ k. (
      same_rest m n ms ns firsts first k (same k).0,
      same_rest n m ns ms (sym firsts) second k (same k).1,
    ) in
    ap suc
    (same_length ms ns (AllPairs-tail (λ i j. i < j) m ms first) (AllPairs-tail (λ i j. i < j) n ns second) rests)
