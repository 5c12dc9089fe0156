-- This file shows that a sorted list of different lists of points ascends strictly.
use Rattle.std.proofs.Common.{◌≡◌, ◌≢◌, ◌⊎◌, ℕ, zero, suc, ◌+◌, ◌<◌, ◌≤◌, Bool, true, false, cond, ◌&&◌, List, [], ◌∷◌, length, get_or}
use Rattle.std.proofs.Common.{AllPairs, sum_by, refl, sym, ap, ap₂, ◌∙◌, inl, inr, arith}
use Rattle.std.specs.List.Sorted.{IsPermutation}
use Rattle.std.proofs.lemmas.List.Sorted.{sum_by-IsPermutation}
use Rattle.std.proofs.lemmas.List.Sums.{sum_by-cons}
use Rattle.grid_base.specs.Point.{GridPoint, is_point}
use Rattle.grid_base.proofs.Orders.{is_point-same, is_point-itself}
use Rattle.grid_base.proofs.Booleans.{both_true}
use Rattle.grid_base.proofs.Ends.{three_points}
use Rattle.r_faces.specs.Turned.{IsListBefore}

-- ---- two lists of points are one, or one comes before the other

three_lists : (c d : List GridPoint) → IsListBefore c d ⊎ ((c ≡ d) ⊎ IsListBefore d c)
three_lists [] [] = inr (inl refl)
three_lists [] (q ∷ d) = inl tt
three_lists (p ∷ c) [] = inr (inr tt)
three_lists (p ∷ c) (q ∷ d) = elim (three_points p q) [
  | inl less ↦ inl (inl less)
  | inr o ↦ elim o [
    | inl same ↦ elim (three_lists c d) [
      | inl less ↦ inl (inr (same, less))
      | inr u ↦ elim u [
        | inl e ↦ inr (inl (ap₂ (λ (x : GridPoint) (l : List GridPoint). x ∷ l) same e))
        | inr more ↦ inr (inr (inr (sym same, more)))
      ]
    ]
    | inr more ↦ inr (inr (inl more))
  ]
]

-- ---- how often a list comes
abbrev is_list : List GridPoint → List GridPoint → Bool
is_list [] [] = true
is_list [] (q ∷ d) = false
is_list (p ∷ c) [] = false
is_list (p ∷ c) (q ∷ d) = is_point p q && is_list c d

list_itself : (c : List GridPoint) → is_list c c ≡ true
list_itself [] = refl
list_itself (p ∷ c) = ap₂ (λ a b. a && b) (is_point-itself p) (list_itself c)

list_same : (c d : List GridPoint) → is_list c d ≡ true → c ≡ d
list_same [] [] h = refl
list_same [] (q ∷ d) h = cc
list_same (p ∷ c) [] h = cc
list_same (p ∷ c) (q ∷ d) h =
    let r = both_true (is_point p q) (is_list c d) h in
    ap₂ (λ (x : GridPoint) (l : List GridPoint). x ∷ l) (is_point-same p q r.0) (list_same c d r.1)

abbrev times : {X : Type 0} → (X → List GridPoint) → List GridPoint → List X → ℕ
times f c xs = sum_by (λ x. cond (is_list (f x) c) 1 0) xs

one_more : {X : Type 0} (f : X → List GridPoint) (c : List GridPoint) (x : X) (xs : List X)
    → times f c (x ∷ xs) ≡ cond (is_list (f x) c) 1 0 + times f c xs
one_more f c x xs = sum_by-cons (λ y. cond (is_list (f y) c) 1 0) x xs

-- of lists that differ from c none is c
none_is : {X : Type 0} (f : X → List GridPoint) (c : List GridPoint) (xs : List X)
    → ((j : ℕ) (d : X) → j < length xs → c ≢ f (get_or xs j d)) → times f c xs ≡ 0
none_is f c [] h = refl
none_is f c (x ∷ xs) h =
    by (is_list (f x) c) refl (none_is f c xs (λ j d l. h (suc j) d (omega (arith, l))))
  where
    by : (b : Bool) → is_list (f x) c ≡ b → times f c xs ≡ 0 → times f c (x ∷ xs) ≡ 0
    by true e rest = absurd (h 0 x (omega arith) (sym (list_same (f x) c e)))
    by false e rest = let first = ap {B = ℕ} (λ (b : Bool). cond b 1 0) e in omega (arith, rest, first, one_more f c x xs)

once_at_most : {X : Type 0} (f : X → List GridPoint) (c : List GridPoint) (xs : List X) → AllPairs (λ x y. f x ≢ f y) xs → times f c xs ≤ 1
once_at_most f c [] h = omega arith
once_at_most {X} f c (x ∷ xs) h =
    by (is_list (f x) c) refl (once_at_most f c xs (λ i j d l m. h (suc i) (suc j) d (omega (arith, l)) (omega (arith, m))))
  where
    by : (b : Bool) → is_list (f x) c ≡ b → times f c xs ≤ 1 → times f c (x ∷ xs) ≤ 1
    by true e rest =
        let none = none_is f c xs (λ j d l same. h 0 (suc j) d (omega arith) (omega (arith, l)) (list_same (f x) c e ∙ same)) in
        let first = ap {B = ℕ} (λ (b : Bool). cond b 1 0) e in omega (arith, none, first, one_more f c x xs)
    by false e rest = let first = ap {B = ℕ} (λ (b : Bool). cond b 1 0) e in omega (arith, rest, first, one_more f c x xs)

once_there : {X : Type 0} (f : X → List GridPoint) (c : List GridPoint) (xs : List X) (i : ℕ) (d : X) → i < length xs
    → f (get_or xs i d) ≡ c → 1 ≤ times f c xs
once_there f c [] i d l e = absurd (omega (arith, l))
once_there f c (x ∷ xs) zero d l e =
    let it = ap (λ (y : List GridPoint). is_list y c) e ∙ list_itself c in
    let first = ap {B = ℕ} (λ (b : Bool). cond b 1 0) it in omega (arith, first, one_more f c x xs)
once_there f c (x ∷ xs) (suc i) d l e =
    let rest = once_there f c xs i d (omega (arith, l)) e in omega (arith, rest, one_more f c x xs)

twice_there : {X : Type 0} (f : X → List GridPoint) (c : List GridPoint) (xs : List X) (i j : ℕ) (d : X) → i < j → j < length xs
    → f (get_or xs i d) ≡ c → f (get_or xs j d) ≡ c → 2 ≤ times f c xs
twice_there f c [] i j d l m e g = absurd (omega (arith, m))
twice_there f c (x ∷ xs) i zero d l m e g = absurd (omega (arith, l))
twice_there f c (x ∷ xs) zero (suc j) d l m e g =
    let rest = once_there f c xs j d (omega (arith, m)) g in
    let it = ap (λ (y : List GridPoint). is_list y c) e ∙ list_itself c in
    let first = ap {B = ℕ} (λ (b : Bool). cond b 1 0) it in omega (arith, rest, first, one_more f c x xs)
twice_there f c (x ∷ xs) (suc i) (suc j) d l m e g =
    let rest = twice_there f c xs i j d (omega (arith, l)) (omega (arith, m)) e g in omega (arith, rest, one_more f c x xs)

-- ---- sorted, and all different
pub ascends_strictly : {X : Type 0} (f : X → List GridPoint) (xs ys : List X) → IsPermutation xs ys → AllPairs (λ x y. f x ≢ f y) xs
    → AllPairs (λ x y. IsListBefore (f y) (f x) → ⊥) ys → AllPairs (λ x y. IsListBefore (f x) (f y)) ys
ascends_strictly {X} f xs ys moved apart sorted i j d before within = elim (three_lists (f (get_or ys i d)) (f (get_or ys j d))) [
  | inl less ↦ less
  | inr o ↦ elim o [
    | inl same ↦
        let c = f (get_or ys j d) in
        let two = twice_there f c ys i j d before within same refl in
        let one = once_at_most f c xs apart in
        absurd (omega (arith, two, one, sum_by-IsPermutation (λ x. cond (is_list (f x) c) 1 0) xs ys moved))
    | inr more ↦ absurd (sorted i j d before within more)
  ]
]
