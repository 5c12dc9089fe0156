-- This file shows how odd numbers of things add up, and how a parity and a count tell one another.
use Rattle.std.proofs.Common.{◌≡◌, ℕ, ◌+◌, Bool, true, false, cond, List, [], ◌∷◌, ◌++◌, get_or, take}
use Rattle.std.proofs.Common.{refl, sym, ap, ◌∙◌, arith}
use Rattle.std.specs.Prelude.{◌%◌, count_by}
use Rattle.std.proofs.lemmas.List.Sums.{sum_by-cons}
use Rattle.side_parity.specs.Middle.{differ}
use Rattle.side_parity.proofs.Regions.{odd_count}

-- ---- one of two truths
pub differ-assoc : (a b c : Bool) → differ (differ a b) c ≡ differ a (differ b c)
differ-assoc false b c = refl
differ-assoc true false c = refl
differ-assoc true true false = refl
differ-assoc true true true = refl

pub differ-comm : (a b : Bool) → differ a b ≡ differ b a
differ-comm false false = refl
differ-comm false true = refl
differ-comm true false = refl
differ-comm true true = refl

pub differ-false : (a : Bool) → differ a false ≡ a
differ-false false = refl
differ-false true = refl

pub differ-self : (a : Bool) → differ a a ≡ false
differ-self false = refl
differ-self true = refl

pub differ-twice : (a x : Bool) → differ a (differ a x) ≡ x
differ-twice false x = refl
differ-twice true false = refl
differ-twice true true = refl

pub differ-swap : (a b c d : Bool) → differ (differ a b) (differ c d) ≡ differ (differ a c) (differ b d)
differ-swap false b c d = sym (differ-assoc b c d) ∙ ap (λ x. differ x d) (differ-comm b c) ∙ differ-assoc c b d
differ-swap true false false false = refl
differ-swap true false false true = refl
differ-swap true false true false = refl
differ-swap true false true true = refl
differ-swap true true false false = refl
differ-swap true true false true = refl
differ-swap true true true false = refl
differ-swap true true true true = refl

pub same_by : (a b : Bool) → differ a b ≡ false → a ≡ b
same_by false b e = sym e
same_by true false e = e
same_by true true e = refl

-- ---- parities of lists
pub odd_count-differ : {A : Type 0} (f g : A → Bool) (l : List A)
    → odd_count (λ x. differ (f x) (g x)) l ≡ differ (odd_count f l) (odd_count g l)
odd_count-differ f g [] = refl
odd_count-differ f g (x ∷ l) =
    ap (differ (differ (f x) (g x))) (odd_count-differ f g l)
    ∙ differ-swap (f x) (g x) (odd_count f l) (odd_count g l)

pub odd_count-same : {A : Type 0} (f g : A → Bool) (l : List A) → ((x : A) → f x ≡ g x)
    → odd_count f l ≡ odd_count g l
odd_count-same f g [] h = refl
odd_count-same f g (x ∷ l) h = ap (λ b. differ b (odd_count f l)) (h x) ∙ ap (differ (g x)) (odd_count-same f g l h)

pub odd_count-append : {A : Type 0} (f : A → Bool) (l k : List A)
    → odd_count f (l ++ k) ≡ differ (odd_count f l) (odd_count f k)
odd_count-append f [] k = refl
odd_count-append f (x ∷ l) k =
    ap (differ (f x)) (odd_count-append f l k) ∙ sym (differ-assoc (f x) (odd_count f l) (odd_count f k))

-- one more
pub odd_count-more : {A : Type 0} (f : A → Bool) (l : List A) (i : ℕ) (d : A)
    → take (i + 1) l ≡ take i l ++ get_or l i d ∷ []
    → odd_count f (take (i + 1) l) ≡ differ (f (get_or l i d)) (odd_count f (take i l))
odd_count-more f l i d e =
    ap (odd_count f) e
    ∙ odd_count-append f (take i l) (get_or l i d ∷ [])
    ∙ ap (differ (odd_count f (take i l))) (differ-false (f (get_or l i d)))
    ∙ differ-comm (odd_count f (take i l)) (f (get_or l i d))

-- ---- counts and parities
-- one thing more turns the parity where it is counted
parity_more : (b c : Bool) (n : ℕ) → n % 2 ≡ cond c 1 0 → (cond b 1 0 + n) % 2 ≡ cond (differ b c) 1 0
parity_more true true n h = omega arith
parity_more true false n h = omega arith
parity_more false true n h = omega arith
parity_more false false n h = omega arith

parity_is : {X : Type 0} (f : X → Bool) (xs : List X) → count_by f xs % 2 ≡ cond (odd_count f xs) 1 0
parity_is f [] = omega arith
parity_is f (x ∷ xs) =
    ap (λ (n : ℕ). n % 2) (sum_by-cons (λ y. cond (f y) 1 0) x xs)
    ∙ parity_more (f x) (odd_count f xs) (count_by f xs) (parity_is f xs)

true_at_one : (b : Bool) (n : ℕ) → n ≡ cond b 1 0 → n ≡ 1 → b ≡ true
true_at_one true n e one = refl
true_at_one false n e one = absurd (omega arith)

false_at_zero : (b : Bool) (n : ℕ) → n ≡ cond b 1 0 → n ≡ 0 → b ≡ false
false_at_zero true n e none = absurd (omega arith)
false_at_zero false n e none = refl

pub odd_by_count : {X : Type 0} (f : X → Bool) (xs : List X) → count_by f xs % 2 ≡ 1 → odd_count f xs ≡ true
odd_by_count f xs h = true_at_one _ _ (parity_is f xs) h

pub count_by_odd : {X : Type 0} (f : X → Bool) (xs : List X) → odd_count f xs ≡ true → count_by f xs % 2 ≡ 1
count_by_odd f xs h = parity_is f xs ∙ ap (λ b. cond b 1 0) h

pub even_by_count : {X : Type 0} (f : X → Bool) (xs : List X) → count_by f xs % 2 ≡ 0 → odd_count f xs ≡ false
even_by_count f xs h = false_at_zero _ _ (parity_is f xs) h

pub count_by_even : {X : Type 0} (f : X → Bool) (xs : List X) → odd_count f xs ≡ false → count_by f xs % 2 ≡ 0
count_by_even f xs h = parity_is f xs ∙ ap (λ b. cond b 1 0) h
