-- This file shows what a filter leaves of originals, and which ids are left.
use Rattle.std.proofs.Common.{◌≡◌, ◌≢◌, ◌↔◌, ℕ, List, [], ◌∷◌, get_or, All, Any}
use Rattle.std.proofs.Common.{Bool, true, false, not, ◌==◌, cond, suc, true≢false}
use Rattle.std.proofs.Common.{refl, sym, ap, ◌∙◌, inl, inr, arith}
use Rattle.std.specs.List.{filter}
use Rattle.std.proofs.lemmas.Bool.Decides.{nat_tests}
use Rattle.grid_base.specs.declared.original.Original.{Original}
use Rattle.hook_chain.specs.Ids.{LacksId}
use Rattle.chain_laws.proofs.Elements.{Any-head, Any-later, Any-nil, Any-cons_cases}

-- x passes, and has P
abbrev pub Passes : {X : Type 0} → (X → Bool) → (X → Type 0) → X → Type 0
Passes p P x = (p x ≡ true) × P x

-- some element that passes has P where some element passes and has P
pub Any-passes : {X : Type 0} (p : X → Bool) (P : X → Type 0) (xs : List X) → Any P (filter p xs) ↔ Any (Passes p P) xs
Any-passes p P [] = (λ some. absurd (Any-nil P some), λ some. absurd (Any-nil (Passes p P) some))
Any-passes p P (x ∷ xs) = by_first (p x) refl (Any-passes p P xs)
  where
    by_first : (b : Bool) → p x ≡ b → Any P (filter p xs) ↔ Any (Passes p P) xs
        → Any P (cond b (x ∷ filter p xs) (filter p xs)) ↔ Any (Passes p P) (x ∷ xs)
    by_first true is rest = (
      λ some. elim (Any-cons_cases P x (filter p xs) some) [
        | inl first ↦ Any-head (Passes p P) x xs (is, first)
        | inr later ↦ Any-later (Passes p P) x xs (rest.0 later)
      ],
      λ some. elim (Any-cons_cases (Passes p P) x xs some) [
        | inl first ↦ Any-head P x (filter p xs) first.1
        | inr later ↦ Any-later P x (filter p xs) (rest.1 later)
      ],
    )
    by_first false is rest = (
      λ some. Any-later (Passes p P) x xs (rest.0 some),
      λ some. elim (Any-cons_cases (Passes p P) x xs some) [
        | inl first ↦ absurd (true≢false (sym first.0 ∙ is))
        | inr later ↦ rest.1 later
      ],
    )

-- where all pass, all stay
all_stay : {X : Type 0} (p : X → Bool) (xs : List X) → All (λ x. p x ≡ true) xs → filter p xs ≡ xs
all_stay p [] all = refl
all_stay p (x ∷ xs) all =
    let rest = all_stay p xs (λ k d within. all (suc k) d (omega arith)) in
    ap (λ b. cond b (x ∷ filter p xs) (filter p xs)) (all 0 x (omega arith)) ∙ ap (λ ys. x ∷ ys) rest

-- what passes has another id
pub other_id : (m n : ℕ) → (not (m == n) ≡ true) ↔ (m ≢ n)
other_id m n = (λ passes same. grind (arith, nat_tests), λ other. grind (arith, nat_tests))

-- without an id that none has, the originals are the same
pub none_to_remove : (originals : List Original) (id : ℕ) → LacksId originals id
    → filter (λ o. not (o.id == id)) originals ≡ originals
none_to_remove originals id lacks =
    all_stay (λ o. not (o.id == id)) originals (λ k d within. (other_id (get_or originals k d).id id).1 (lacks k d within))
