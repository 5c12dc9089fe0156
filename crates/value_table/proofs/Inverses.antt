-- This file shows that names and numbers go on telling each other where a pair of them comes or goes.
use Rattle.std.proofs.Common.{◌≡◌, ◌↔◌, ℕ, Bool, true, false, cond, List, Option, Some, None, nat_cmp}
use Rattle.std.proofs.Common.{refl, sym, ap, ◌∙◌, true≢false, arith}
use Rattle.std.specs.Bool.{Decides}
use Rattle.std.specs.BTreeMap.{is_at}
use Rattle.std.specs.Str.{bytes_eq}
use Rattle.std.proofs.lemmas.Bool.Decides.{nat_tests}
use Rattle.std.proofs.lemmas.Option.{none-some, same_Some}
use Rattle.std.proofs.lemmas.Slice.Eq.{bytes_eq-Decides}

-- f gives a name the number just where g gives the number the name
abbrev pub AreInverse : (List ℕ → Option ℕ) → (ℕ → Option (List ℕ)) → Type 0
AreInverse f g = (name : List ℕ) (n : ℕ) → (f name ≡ Some n) ↔ (g n ≡ Some name)

-- two that answer the same do so too
pub inverse_same : (f to : List ℕ → Option ℕ) (g back : ℕ → Option (List ℕ)) → AreInverse f g
    → ((name : List ℕ) → to name ≡ f name) → ((n : ℕ) → back n ≡ g n) → AreInverse to back
inverse_same f to g back both same_to same_back name n = (
  λ has. same_back n ∙ (both name n).0 (sym (same_to name) ∙ has),
  λ has. same_to name ∙ (both name n).1 (sym (same_back n) ∙ has),
)

-- a number is found where it is the one that is looked for
pub number-Decides : (m n : ℕ) → Decides (is_at (nat_cmp m) n) (m ≡ n)
number-Decides m n = (is m n, at m n)
  where
    is : (m n : ℕ) → is_at (nat_cmp m) n ≡ true → m ≡ n
    is m n at = grind (arith, nat_tests)

    at : (m n : ℕ) → m ≡ n → is_at (nat_cmp m) n ≡ true
    at m n is = grind (arith, nat_tests)

-- what is told apart isn't the same
apart : (b : Bool) (P : Type 0) → Decides b P → b ≡ false → P → ⊥
apart b P decides other p = true≢false (sym (decides.1 p) ∙ other)

module _ (f : List ℕ → Option ℕ) (g : ℕ → Option (List ℕ)) (name : List ℕ) (n : ℕ) (both : AreInverse f g) where
  -- a pair comes, of which neither was there
  pub inverse_put : f name ≡ None → g n ≡ None
      → AreInverse (λ q. cond (bytes_eq name q) (Some n) (f q)) (λ m. cond (is_at (nat_cmp n) m) (Some name) (g m))
  inverse_put no_number no_name q m = by (bytes_eq name q) (is_at (nat_cmp n) m) (bytes_eq-Decides name q) (number-Decides n m)
    where
      by : (s t : Bool) → Decides s (name ≡ q) → Decides t (n ≡ m)
          → (cond s (Some n) (f q) ≡ Some m) ↔ (cond t (Some name) (g m) ≡ Some q)
      by true true is_name is_number = (λ _. ap Some (is_name.0 refl), λ _. ap Some (is_number.0 refl))
      by true false is_name is_number = (
        λ has. absurd (apart false (n ≡ m) is_number refl (same_Some n m has)),
        λ has. absurd (none-some m (sym no_number ∙ ap f (is_name.0 refl) ∙ (both q m).1 has)),
      )
      by false true is_name is_number = (
        λ has. absurd (none-some q (sym no_name ∙ ap g (is_number.0 refl) ∙ (both q m).0 has)),
        λ has. absurd (apart false (name ≡ q) is_name refl (same_Some name q has)),
      )
      by false false is_name is_number = both q m

  -- a pair goes
  pub inverse_taken : f name ≡ Some n
      → AreInverse (λ q. cond (bytes_eq name q) None (f q)) (λ m. cond (is_at (nat_cmp n) m) None (g m))
  inverse_taken has_number q m = by (bytes_eq name q) (is_at (nat_cmp n) m) (bytes_eq-Decides name q) (number-Decides n m)
    where
      by : (s t : Bool) → Decides s (name ≡ q) → Decides t (n ≡ m)
          → (cond s None (f q) ≡ Some m) ↔ (cond t None (g m) ≡ Some q)
      by true true is_name is_number = (λ never. absurd (none-some m never), λ never. absurd (none-some q never))
      by true false is_name is_number = (
        λ never. absurd (none-some m never),
        λ has. absurd (apart false (n ≡ m) is_number refl
            (same_Some n m (sym has_number ∙ ap f (is_name.0 refl) ∙ (both q m).1 has))),
      )
      by false true is_name is_number = (
        λ has. absurd (apart false (name ≡ q) is_name refl
            (same_Some name q (sym ((both name n).0 has_number) ∙ ap g (is_number.0 refl) ∙ (both q m).0 has))),
        λ never. absurd (none-some q never),
      )
      by false false is_name is_number = both q m
