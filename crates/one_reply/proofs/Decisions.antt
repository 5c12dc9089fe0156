-- This file shows what can be decided: what is in a list, and what is said of all or some of its elements.
use Rattle.std.proofs.Common.{◌≡◌, ◌⊎◌, ◌↔◌, Bool, true, false, IsTrue, List, [], ◌∷◌, Contains, All, Any, refl, sym, subst, inl, inr}
use Rattle.std.proofs.lemmas.Bool.{true≢false}
use Rattle.std.proofs.lemmas.List.Elements.{All-contains}
use Rattle.grid_base.specs.Point.{GridPoint}
use Rattle.grid_base.proofs.Elements.{Contains-here, Contains-later, Contains-cases, Contains-nil}
use Rattle.grid_base.proofs.Ends.{same_or_not}
use Rattle.rose_overlay.proofs.Picks.{ArePicked}
use Rattle.rose_predicates.proofs.Truths.{each, some, of_some}

-- P holds, or it doesn't
abbrev pub Decided : Type 0 → Type 0
Decided P = P ⊎ (P → ⊥)

pub answer_of : {P : Type 0} → Decided P → (answer : Bool) × (IsTrue answer ↔ P)
answer_of (inl holds) = (true, (λ e. holds, λ p. refl))
answer_of (inr fails) = (false, (λ e. absurd (true≢false (sym e)), λ p. absurd (fails p)))

-- ---- claims made of others
pub same_decided : {P Q : Type 0} → P ↔ Q → Decided P → Decided Q
same_decided same (inl holds) = inl (same.0 holds)
same_decided same (inr fails) = inr (λ q. fails (same.1 q))

pub not_decided : {P : Type 0} → Decided P → Decided (P → ⊥)
not_decided (inl holds) = inr (λ fails. fails holds)
not_decided (inr fails) = inl fails

pub both_decided : {P Q : Type 0} → Decided P → Decided Q → Decided (P × Q)
both_decided (inl first) (inl second) = inl (first, second)
both_decided (inl first) (inr fails) = inr (λ both. fails both.1)
both_decided (inr fails) other = inr (λ both. fails both.0)

pub either_decided : {P Q : Type 0} → Decided P → Decided Q → Decided (P ⊎ Q)
either_decided (inl first) other = inl (inl first)
either_decided (inr none) (inl second) = inl (inr second)
either_decided (inr none) (inr no_other) = inr (λ one. elim one [ inl first ↦ none first | inr second ↦ no_other second ])

pub test_decided : (b : Bool) → Decided (b ≡ true)
test_decided true = inl refl
test_decided false = inr (λ e. true≢false (sym e))

-- ---- lists
-- the first element with Q, or that there is none
pub first_with : {X : Type 0} (Q : X → Type 0) (xs : List X) → ((x : X) → Contains xs x → Decided (Q x))
    → ((x : X) × Contains xs x × Q x) ⊎ ((x : X) → Contains xs x → Q x → ⊥)
first_with Q [] decide = inr (λ x there holds. Contains-nil x there)
first_with Q (x ∷ xs) decide = elim (decide x (Contains-here x xs)) [
  | inl holds ↦ inl (x, Contains-here x xs, holds)
  | inr fails ↦ elim (first_with Q xs (λ y there. decide y (Contains-later x xs y there))) [
    | inl found ↦ inl (found.0, Contains-later x xs found.0 found.1, found.2)
    | inr others ↦ inr (λ y there holds. elim (Contains-cases x xs y there) [
      | inl same ↦ fails (subst Q (sym same) holds)
      | inr later ↦ others y later holds
    ])
  ]
]

pub any_decided : {X : Type 0} (Q : X → Type 0) (xs : List X) → ((x : X) → Contains xs x → Decided (Q x)) → Decided (Any Q xs)
any_decided Q xs decide = elim (first_with Q xs decide) [
  | inl found ↦ inl (some Q xs found.0 found.1 found.2)
  | inr none ↦ inr (λ any. let (x, there, holds) = of_some Q xs any in none x there holds)
]

-- all have it where none lacks it
pub all_decided : {X : Type 0} (Q : X → Type 0) (xs : List X) → ((x : X) → Contains xs x → Decided (Q x)) → Decided (All Q xs)
all_decided Q xs decide = elim (first_with (λ x. Q x → ⊥) xs (λ x there. not_decided (decide x there))) [
  | inl found ↦ inr (λ all. found.2 (All-contains Q xs found.0 all found.1))
  | inr none ↦ inl (each Q xs (λ x there. elim (decide x there) [ inl holds ↦ holds | inr fails ↦ absurd (none x there fails) ]))
]

-- the elements with Q
pub picked : {X : Type 0} (Q : X → Type 0) (xs : List X) → ((x : X) → Contains xs x → Decided (Q x)) → (ys : List X) × ArePicked Q xs ys
picked Q [] decide = ([], λ x. (λ there. absurd (Contains-nil x there), λ both. both.0))
picked Q (x ∷ xs) decide =
    let (ys, are) = picked Q xs (λ y there. decide y (Contains-later x xs y there)) in
    elim (decide x (Contains-here x xs)) [
      | inl holds ↦ (
        x ∷ ys,
        λ y. (
          λ there. elim (Contains-cases x ys y there) [
            | inl same ↦ (subst (Contains (x ∷ xs)) same (Contains-here x xs), subst Q same holds)
            | inr later ↦ let was = (are y).0 later in (Contains-later x xs y was.0, was.1)
          ],
          λ both. elim (Contains-cases x xs y both.0) [
            | inl same ↦ subst (Contains (x ∷ ys)) same (Contains-here x ys)
            | inr later ↦ Contains-later x ys y ((are y).1 (later, both.1))
          ],
        ),
      )
      | inr fails ↦ (
        ys,
        λ y. (
          λ there. let was = (are y).0 there in (Contains-later x xs y was.0, was.1),
          λ both. elim (Contains-cases x xs y both.0) [
            | inl same ↦ absurd (fails (subst Q (sym same) both.1))
            | inr later ↦ (are y).1 (later, both.1)
          ],
        ),
      )
    ]

pub point_there : (list : List GridPoint) (p : GridPoint) → Decided (Contains list p)
point_there list p = elim (first_with (λ q. q ≡ p) list (λ q there. same_or_not q p)) [
  | inl (q, there, same) ↦ inl (subst (Contains list) same there)
  | inr none ↦ inr (λ there. none p there refl)
]
