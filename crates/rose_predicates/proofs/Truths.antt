-- This file shows what follows from an answer that tells whether something holds, and from what holds of the elements of a list.
use Rattle.std.proofs.Common.{◌≡◌, ◌⊎◌, ◌↔◌, Bool, true, false, not, ◌&&◌, IsTrue, List, All, Contains, [], ◌∷◌}
use Rattle.std.proofs.Common.{ℕ, zero, suc, ◌<◌, length, slice_index_or, refl, sym, ap₂, subst, ◌∙◌, arith, inl, inr}
use lib.Pointwise.{pointwise}
use Rattle.std.specs.Bool.{MatchBool}
use Rattle.std.specs.Iterator.Adapters.{zip_first, zip_second}
use Rattle.std.specs.List.{AllWithin, AllZip, Any, HoldsAt, zip}
use Rattle.std.specs.Slice.Iter.{iter_rest}
use Rattle.std.specs.declared.iter.Zip.{Zip}
use Rattle.std.specs.declared.slice.Iter.{Iter}
use Rattle.std.proofs.lemmas.Bool.{MatchBool-at_true}
use Rattle.std.proofs.lemmas.Fn.{fronts}
use Rattle.std.proofs.lemmas.Iterator.{YieldsList, YieldsList-from_slice, YieldsList-from_zip, zips}
use Rattle.std.proofs.lemmas.Iterator.Search.{true_from_All, true_from_Any}
use Rattle.std.proofs.lemmas.List.Elements.{All-from_all_within}
use Rattle.grid_base.proofs.Elements.{same_place}
use Rattle.std.proofs.lemmas.Bool.{and_left, cases_Bool, true≢false}
use Rattle.std.proofs.lemmas.List.Elements.{All-contains, All-contains_itself, All-weaker}

-- of another statement of the same
pub told_by : {P Q : Type 0} {b : Bool} → IsTrue b ↔ P → P ↔ Q → IsTrue b ↔ Q
told_by told same = (λ e. same.0 (told.0 e), λ q. told.1 (same.1 q))

-- of an answer that is the same
pub same_told : {P : Type 0} {a b : Bool} → a ≡ b → IsTrue b ↔ P → IsTrue a ↔ P
same_told {P} same told = subst (λ c. IsTrue c ↔ P) (sym same) told

-- of the contrary
pub not_told : {P : Type 0} {b : Bool} → IsTrue b ↔ P → IsTrue (not b) ↔ (P → ⊥)
not_told {b = true} told = (λ e. absurd (true≢false (sym e)), λ no. absurd (no (told.0 refl)))
not_told {b = false} told = (λ e p. true≢false (sym (told.1 p)), λ no. refl)

-- of the contrary of another statement
pub not_is : {P Q : Type 0} {b : Bool} → IsTrue b ↔ P → P ↔ Q → IsTrue (not b) ↔ (Q → ⊥)
not_is told same = not_told (told_by told same)

-- the first doesn't hold
pub not_held : {P : Type 0} {a : Bool} → IsTrue a ↔ P → a ≡ false → P → ⊥
not_held told e p = true≢false (sym (told.1 p) ∙ e)

-- what never holds, and is told so
pub never : {P : Type 0} → (P → ⊥) → IsTrue false ↔ P
never none = (λ e. absurd (true≢false (sym e)), λ p. absurd (none p))

-- what holds, and is told so
pub always : {P : Type 0} → P → IsTrue true ↔ P
always p = (λ e. p, λ q. refl)

-- of neither, where the second doesn't hold
pub neither_told : {P Q S : Type 0} {b : Bool} → (Q → ⊥) → IsTrue b ↔ P → S ↔ (P ⊎ Q) → IsTrue (not b) ↔ (S → ⊥)
neither_told none first split = (
  λ e s. elim (split.0 s) [ inl p ↦ (not_told first).0 e p | inr q ↦ none q ],
  λ not_s. (not_told first).1 (λ p. not_s (split.1 (inl p))),
)

-- of both, where the first holds
pub with_held : {P Q : Type 0} {b : Bool} → P → IsTrue b ↔ Q → IsTrue b ↔ (P × Q)
with_held p told = (λ e. (p, told.0 e), λ both. told.1 both.1)

-- of both, where the second holds
pub first_held : {P Q : Type 0} {b : Bool} → Q → IsTrue b ↔ P → IsTrue b ↔ (P × Q)
first_held q told = (λ e. (told.0 e, q), λ both. told.1 both.0)

-- ---- lists
pub each : {X : Type 0} (P : X → Type 0) (xs : List X) → ((x : X) → Contains xs x → P x) → All P xs
each P xs h = All-weaker (Contains xs) P h xs (All-contains_itself xs)

pub of_each : {X : Type 0} (P : X → Type 0) (xs : List X) (x : X) → All P xs → Contains xs x → P x
of_each P xs x all there = All-contains P xs x all there

pub some : {X : Type 0} (P : X → Type 0) (xs : List X) (x : X) → Contains xs x → P x → Any P xs
some P xs x (k, within, at) p = (k, x, within, at, p)

pub of_some : {X : Type 0} (P : X → Type 0) (xs : List X) → Any P xs → (x : X) × Contains xs x × P x
of_some P xs (k, x, within, at, p) = (x, (k, within, at), p)

pub some_told : {X : Type 0} (P : X → Type 0) (xs : List X) → Any P xs ↔ ((x : X) × Contains xs x × P x)
some_told P xs = (of_some P xs, λ found. some P xs found.0 found.1 found.2)

-- what holds at a place of the list holds of some element
any_found : {X : Type 0} (P : X → Type 0) (xs : List X) → (k : ℕ) × (k < length xs) × HoldsAt P xs k → Any P xs
any_found P [] (k, within, at) = absurd (omega (arith, within))
any_found P (y ∷ ys) (k, within, at) =
    some P (y ∷ ys) (slice_index_or (y ∷ ys) k y)
    (k, within, same_place (y ∷ ys) k (slice_index_or (y ∷ ys) k y) y within) (at y)

-- what all answers, where each element has P or hasn't
pub all_told : {X : Type 0} (P : X → Type 0) (xs : List X) (r : Bool)
    → MatchBool r (AllWithin P xs 0 (length xs)) ((k : ℕ) × (k < length xs) × HoldsAt (λ x. P x → ⊥) xs k) → IsTrue r ↔ All P xs
all_told P xs r found = (
  λ e. All-from_all_within P xs (MatchBool-at_true _ _ e found),
  λ all. true_from_All P (λ x. P x → ⊥) r xs (λ x p q. q p) found all,
)

-- what any answers
pub any_told : {X : Type 0} (P : X → Type 0) (xs : List X) (r : Bool)
    → MatchBool r ((k : ℕ) × (k < length xs) × HoldsAt P xs k) (AllWithin (λ x. P x → ⊥) xs 0 (length xs)) → IsTrue r ↔ Any P xs
any_told P xs r found = (
  λ e. any_found P xs (MatchBool-at_true _ _ e found),
  λ any. (let p = of_some P xs any in true_from_Any P (λ x. P x → ⊥) r xs (λ x p q. q p) found p.0 p.1 p.2),
)

-- ---- equal lists
to_same : {X : Type 0} (E : X → X → Bool) → ((x y : X) → E x y ≡ true → x ≡ y) → (xs ys : List X) → pointwise E xs ys ≡ true → xs ≡ ys
to_same E same [] [] e = refl
to_same E same [] (y ∷ ys) e = absurd (true≢false (sym e))
to_same E same (x ∷ xs) [] e = absurd (true≢false (sym e))
to_same E same (x ∷ xs) (y ∷ ys) e = elim (cases_Bool (E x y)) [
  | inl t ↦ ap₂ (λ z zs. z ∷ zs) (same x y t) (to_same E same xs ys (rest (E x y) _ t e))
  | inr f ↦ absurd (true≢false (sym e ∙ and_left _ _ f))
]
  where
    rest : (a b : Bool) → a ≡ true → (a && b) ≡ true → b ≡ true
    rest true b t e = e
    rest false b t e = absurd (true≢false (sym t))

with_itself : {X : Type 0} (E : X → X → Bool) → ((x : X) → E x x ≡ true) → (xs : List X) → pointwise E xs xs ≡ true
with_itself E itself [] = refl
with_itself E itself (x ∷ xs) = λ i. itself x i && with_itself E itself xs i

pub lists_told : {X : Type 0} (E : X → X → Bool) → ((x y : X) → E x y ≡ true → x ≡ y) → ((x : X) → E x x ≡ true)
    → (xs ys : List X) → IsTrue (pointwise E xs ys) ↔ (xs ≡ ys)
lists_told E same itself xs ys = (
  to_same E same xs ys,
  λ e. subst (λ zs. pointwise E xs zs ≡ true) e (with_itself E itself xs),
)

-- ---- two lists, place by place
-- the pairs of the elements of two slices are what a zip of them yields
pub pairs_yielded : {X Y : Type 0} {s : Zip (Iter X) (Iter Y)} (xs : List X) (ys : List Y)
    → (iter_rest (zip_first s) ≡ xs) × (iter_rest (zip_second s) ≡ ys)
    → YieldsList (zips fronts fronts) (λ p. (p.0.now, p.1.now)) s (zip xs ys)
pairs_yielded xs ys (first, second) = YieldsList-from_zip (YieldsList-from_slice xs first) (YieldsList-from_slice ys second)

later : {X : Type 0} (y : X) (xs : List X) (x : X) → Contains xs x → Contains (y ∷ xs) x
later y xs x (k, within, at) = (suc k, omega (arith, within), at)

-- an element of the first list is in a pair
paired : {X Y : Type 0} (R : X → Y → Type 0) (xs : List X) (ys : List Y) (x : X) → AllZip R xs ys → Contains xs x
    → (y : Y) × R x y × Contains (zip xs ys) (x, y)
paired R [] ys x all (k, within, at) = absurd (omega (arith, within))
paired R (z ∷ xs) [] x all there = absurd all
paired R (z ∷ xs) (y ∷ ys) x all (zero, within, at) = (y, subst (λ w. R w y) at all.0, (zero, omega arith, λ i. (at i, y)))
paired R (z ∷ xs) (y ∷ ys) x all (suc k, within, at) =
    let pair = paired R xs ys x all.1 (k, omega (arith, within), at) in
    (pair.0, pair.1, later (z, y) (zip xs ys) (x, pair.0) pair.2)

-- and each pair has one
of_pair : {X Y : Type 0} (R : X → Y → Type 0) (xs : List X) (ys : List Y) (p : X × Y) → AllZip R xs ys → Contains (zip xs ys) p
    → Contains xs p.0 × R p.0 p.1
of_pair R [] ys p all (k, within, at) = absurd (omega (arith, within))
of_pair R (x ∷ xs) [] p all there = absurd all
of_pair R (x ∷ xs) (y ∷ ys) p all (zero, within, at) =
    ((zero, omega arith, λ i. (at i).0), subst (λ q. R q.0 q.1) at all.0)
of_pair R (x ∷ xs) (y ∷ ys) p all (suc k, within, at) =
    let rest = of_pair R xs ys p all.1 (k, omega (arith, within), at) in
    (later x xs p.0 rest.0, rest.1)

module _ {X Y : Type 0} (R : X → Y → Type 0) (P : X × Y → Type 0) (Q : X → Type 0) (xs : List X) (ys : List Y) (all : AllZip R xs ys)
    (same : (x : X) (y : Y) → R x y → P (x, y) ↔ Q x) where
  -- what holds of each pair, and of each element of the first list
  pub pairs_each : All P (zip xs ys) ↔ All Q xs
  pairs_each = (
    λ h. each Q xs (λ x there. (let p = paired R xs ys x all there in (same x p.0 p.1).0 (of_each P (zip xs ys) (x, p.0) h p.2))),
    λ h. each P (zip xs ys) (λ p there. (let x = of_pair R xs ys p all there in (same p.0 p.1 x.1).1 (of_each Q xs p.0 h x.0))),
  )

  -- and of some
  pub pairs_some : Any P (zip xs ys) ↔ Any Q xs
  pairs_some = (
    λ h. (let p = of_some P (zip xs ys) h in let x = of_pair R xs ys p.0 all p.1 in some Q xs p.0.0 x.0 ((same p.0.0 p.0.1 x.1).0 p.2)),
    λ h.
        (let x = of_some Q xs h in
        let p = paired R xs ys x.0 all x.1 in
        some P (zip xs ys) (x.0, p.0) p.2 ((same x.0 p.0 p.1).1 x.2)),
  )
