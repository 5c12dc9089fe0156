-- This file shows what a filter leaves, and which ids are found in a list.
use Rattle.std.proofs.Common.{◌≡◌, ◌⊎◌, ◌↔◌, ℕ, Bool, true, false, not, cond, ◌&&◌, ◌||◌, ◌==◌, List, [], ◌∷◌, filter}
use Rattle.std.proofs.Common.{Contains, refl, sym, ap, ap₂, subst, ◌∙◌, inl, inr}
use Rattle.grid_base.specs.Point.{GridPoint, point_at}
use Rattle.grid_base.specs.declared.original.Original.{Original}
use Rattle.grid_base.proofs.Booleans.{both_true, one_true, either_true, same_number, number_itself}
use Rattle.grid_base.proofs.Elements.{Contains-here, Contains-later, Contains-cases, Contains-nil}
use Rattle.realm_insert.specs.Differences.{has_id}

-- ---- filters
-- tests that agree on the elements leave the same
pub filter_same : {X : Type 0} (p q : X → Bool) (xs : List X) → ((x : X) → Contains xs x → p x ≡ q x) → filter p xs ≡ filter q xs
filter_same p q [] agree = refl
filter_same {X} p q (x ∷ xs) agree =
    let rest = filter_same p q xs (λ y there. agree y (Contains-later x xs y there)) in
    ap₂ (λ (b : Bool) (ys : List X). cond b (x ∷ ys) ys) (agree x (Contains-here x xs)) rest

-- what all pass leaves all, and what none passes leaves nothing
pub filter_all : {X : Type 0} (p : X → Bool) (xs : List X) → ((x : X) → Contains xs x → p x ≡ true) → filter p xs ≡ xs
filter_all p [] pass = refl
filter_all {X} p (x ∷ xs) pass =
    let rest = filter_all p xs (λ y there. pass y (Contains-later x xs y there)) in
    ap₂ (λ (b : Bool) (ys : List X). cond b (x ∷ ys) ys) (pass x (Contains-here x xs)) rest

pub filter_none : {X : Type 0} (p : X → Bool) (xs : List X) → ((x : X) → Contains xs x → p x ≡ false) → filter p xs ≡ []
filter_none p [] fail = refl
filter_none {X} p (x ∷ xs) fail =
    let rest = filter_none p xs (λ y there. fail y (Contains-later x xs y there)) in
    ap₂ (λ (b : Bool) (ys : List X). cond b (x ∷ ys) ys) (fail x (Contains-here x xs)) rest

-- two filters, one after the other, leave what passes both
pub filter_twice : {X : Type 0} (p q : X → Bool) (xs : List X) → filter p (filter q xs) ≡ filter (λ x. q x && p x) xs
filter_twice p q [] = refl
filter_twice {X} p q (x ∷ xs) = by_first (q x) (filter_twice p q xs)
  where
    by_first : (b : Bool) → filter p (filter q xs) ≡ filter (λ x. q x && p x) xs
        → filter p (cond b (x ∷ filter q xs) (filter q xs))
        ≡ cond (b && p x) (x ∷ filter (λ x. q x && p x) xs) (filter (λ x. q x && p x) xs)
    by_first true rest = ap (λ (ys : List X). cond (p x) (x ∷ ys) ys) rest
    by_first false rest = rest

-- one test says whether the other fails
pub not_is : (b : Bool) → (b ≡ true → ⊥) → not b ≡ true
not_is true fails = absurd (fails refl)
not_is false fails = refl

pub is_not : (b : Bool) → not b ≡ true → b ≡ true → ⊥
is_not true fails passes = cc
is_not false fails passes = cc

-- tests that pass in the same cases are one
pub same_test : (b c : Bool) → (b ≡ true → c ≡ true) → (c ≡ true → b ≡ true) → b ≡ c
same_test true c to from = sym (to refl)
same_test false true to from = from refl
same_test false false to from = refl

-- a test passes or doesn't
pub passes_or_not : (b : Bool) → (b ≡ true) ⊎ (b ≡ false)
passes_or_not true = inl refl
passes_or_not false = inr refl

-- ---- ids in a list
-- some original has the id
pub id_is : (originals : List Original) (id : ℕ) → has_id originals id ≡ true ↔ ((o : Original) × Contains originals o × (o.id ≡ id))
id_is [] id = (λ found. cc, λ (o, there, same). absurd (Contains-nil o there))
id_is (o ∷ originals) id =
    let rest = id_is originals id in (
      λ found. elim (one_true (o.id == id) (has_id originals id) found) [
        | inl here ↦ (o, Contains-here o originals, same_number o.id id here)
        | inr later ↦ let (p, there, same) = rest.0 later in (p, Contains-later o originals p there, same)
      ],
      λ (p, there, same). elim (Contains-cases o originals p there) [
        | inl first ↦ either_true (o.id == id) (has_id originals id)
            (inl (number_itself o.id id (ap (λ (q : Original). q.id) first ∙ same)))
        | inr later ↦ either_true (o.id == id) (has_id originals id) (inr (rest.1 (p, later, same)))
      ],
    )
