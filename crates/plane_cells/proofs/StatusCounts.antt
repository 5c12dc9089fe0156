-- This file shows that a test that only segments of the status pass is passed as often there as among all numbers.
use Rattle.std.proofs.Common.{◌≡◌, ◌⊎◌, ℕ, zero, suc, ◌<◌, Bool, true, false, List, [], ◌∷◌, refl, sym, ap, ◌∙◌, arith, inl, inr}
use Rattle.std.specs.Prelude.{◌==◌}
use Rattle.plane_classes.proofs.Parities.{xor, par, xor_swap}
use Rattle.plane_cells.specs.Steps.{In, Each, Pairs}
use Rattle.plane_cells.proofs.Lists.{same_or}

-- whether an odd number of the numbers below n passes
abbrev pub par_below : (ℕ → Bool) → ℕ → Bool
par_below g zero = false
par_below g (suc n) = xor (g n) (par_below g n)

abbrev pub unless : Bool → Bool → Bool
unless true b = false
unless false b = b

-- the test, but for k
abbrev pub except : ℕ → (ℕ → Bool) → ℕ → Bool
except k g i = unless (i == k) (g i)

pub same_yes : (k : ℕ) → (k == k) ≡ true
same_yes k = grind arith

pub same_no : (i k : ℕ) → (i ≡ k → ⊥) → (i == k) ≡ false
same_no i k h = grind arith

pub except_own : (k : ℕ) (g : ℕ → Bool) → except k g k ≡ false
except_own k g = ap (λ (b : Bool). unless b (g k)) (same_yes k)

pub except_other : (k : ℕ) (g : ℕ → Bool) (i : ℕ) → (i ≡ k → ⊥) → except k g i ≡ g i
except_other k g i h = ap (λ (b : Bool). unless b (g i)) (same_no i k h)

pub less_self : (m n : ℕ) → m < n → m ≡ n → ⊥
less_self m n h e = omega (arith, h, e)

pub both : (a b c d : Bool) → a ≡ c → b ≡ d → xor a b ≡ xor c d
both a b c d e f = cc

-- tests that agree below n are passed alike there
pub below_alike : (g h : ℕ → Bool) (n : ℕ) → ((i : ℕ) → i < n → g i ≡ h i) → par_below g n ≡ par_below h n
below_alike g h zero e = refl
below_alike g h (suc n) e = both _ _ _ _ (e n (omega arith)) (below_alike g h n (λ i l. e i (omega (arith, l))))

below_same : (k n : ℕ) (g : ℕ → Bool) → ((i : ℕ) → i < n → i ≡ k → ⊥) → par_below (except k g) n ≡ par_below g n
below_same k zero g h = refl
below_same k (suc n) g h = both _ _ _ _ (except_other k g n (h n (omega arith))) (below_same k n g (λ i l. h i (omega (arith, l))))

pub one_of : (k n : ℕ) → k < suc n → (k ≡ n) ⊎ (k < n)
one_of k n h = grind arith

-- one number taken out
taken_out : (k n : ℕ) (g : ℕ → Bool) → k < n → par_below g n ≡ xor (g k) (par_below (except k g) n)
taken_out k zero g h = absurd (omega (arith, h))
taken_out k (suc n) g h = elim (one_of k n h) [
  | inl e ↦ both (g n) (par_below g n) (g k) (xor (except k g n) (par_below (except k g) n)) (ap g (sym e))
      (sym (both (except k g n) (par_below (except k g) n) false (par_below g n) (ap (except k g) (sym e) ∙ except_own k g)
      (below_same k n g (λ i l f. less_self i n l (f ∙ e)))))
  | inr l ↦ both (g n) (par_below g n) (g n) (xor (g k) (par_below (except k g) n)) refl (taken_out k n g l)
      ∙ xor_swap (g n) (g k) (par_below (except k g) n)
      ∙ both (g k) (xor (g n) (par_below (except k g) n)) (g k) (xor (except k g n) (par_below (except k g) n)) refl
      (both (g n) (par_below (except k g) n) (except k g n) (par_below (except k g) n)
      (sym (except_other k g n (λ e. less_self k n l (sym e)))) refl)
]

par_other : (k : ℕ) (g : ℕ → Bool) (S : List ℕ) → Each (λ i. k ≡ i → ⊥) S → par g S ≡ par (except k g) S
par_other k g [] h = refl
par_other k g (i ∷ S) h = both (g i) (par g S) (except k g i) (par (except k g) S) (sym (except_other k g i (λ e. h.0 (sym e))))
    (par_other k g S h.1)

pub none_below : (n : ℕ) (g : ℕ → Bool) → ((i : ℕ) → i < n → g i ≡ false) → par_below g n ≡ false
none_below zero g h = refl
none_below (suc n) g h = both (g n) (par_below g n) false false (h n (omega arith)) (none_below n g (λ i l. h i (omega (arith, l))))

pub counted_in_status : (n : ℕ) (S : List ℕ) (g : ℕ → Bool) → Pairs (λ i j. i ≡ j → ⊥) S → Each (λ i. i < n) S
    → ((i : ℕ) → i < n → (In i S → ⊥) → g i ≡ false) → par g S ≡ par_below g n
counted_in_status n [] g s b h = sym (none_below n g (λ i l. h i l (λ m. m)))
counted_in_status n (k ∷ S) g s b h =
    both (g k) (par g S) (g k) (par_below (except k g) n) refl (par_other k g S s.0 ∙ counted_in_status n S (except k g) s.1 b.1 rest) ∙ sym
    (taken_out k n g b.0)
  where
    rest : (i : ℕ) → i < n → (In i S → ⊥) → except k g i ≡ false
    rest i l m = elim (same_or i k) [
      | inl e ↦ ap (except k g) e ∙ except_own k g
      | inr d ↦ except_other k g i d ∙ h i l (λ a. elim a [ inl e ↦ d e | inr c ↦ m c ])
    ]
