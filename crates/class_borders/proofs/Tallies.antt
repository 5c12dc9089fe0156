-- This file shows that a test that only numbers of a list pass is passed as often there as among all numbers.
use Rattle.std.proofs.Common.{◌≡◌, ℕ, zero, suc, ◌+◌, ◌<◌, Bool, true, false, cond, ◌&&◌, List, [], ◌∷◌, refl, sym, ap, ◌∙◌}
use Rattle.std.proofs.Common.{arith, inl, inr}
use Rattle.plane_cells.specs.Steps.{In, Each, Pairs}
use Rattle.plane_cells.proofs.Lists.{same_or}
use Rattle.plane_cells.proofs.StatusCounts.{except, except_own, except_other, less_self, one_of}

-- 1 where the test holds
abbrev pub one : Bool → ℕ
one b = cond b 1 0

-- how many numbers of the list pass
abbrev pub tally : (ℕ → Bool) → List ℕ → ℕ
tally g [] = 0
tally g (i ∷ l) = one (g i) + tally g l

-- how many of the numbers below n pass
abbrev pub tally_below : (ℕ → Bool) → ℕ → ℕ
tally_below g zero = 0
tally_below g (suc n) = one (g n) + tally_below g n

pub tally_alike : (g h : ℕ → Bool) (n : ℕ) → ((i : ℕ) → i < n → g i ≡ h i) → tally_below g n ≡ tally_below h n
tally_alike g h zero e = refl
tally_alike g h (suc n) e =
    let rest = tally_alike g h n (λ i l. e i (omega (arith, l))) in
    let first = ap (λ (b : Bool). one b) (e n (omega arith)) in omega (arith, rest, first)

-- one number taken out
taken_out : (k n : ℕ) (g : ℕ → Bool) → k < n → tally_below g n ≡ one (g k) + tally_below (except k g) n
taken_out k zero g h = absurd (omega (arith, h))
taken_out k (suc n) g h = elim (one_of k n h) [
  | inl e ↦
      let rest = tally_alike (except k g) g n (λ i l. except_other k g i (λ f. less_self i n l (f ∙ e))) in
      let own = ap (λ (b : Bool). one b) (ap (except k g) (sym e) ∙ except_own k g) in
      let first = ap (λ (i : ℕ). one (g i)) e in
      omega (arith, rest, own, first)
  | inr l ↦
      let rest = taken_out k n g l in
      let first = ap (λ (b : Bool). one b) (except_other k g n (λ e. less_self k n l (sym e))) in
      omega (arith, rest, first)
]

tally_other : (k : ℕ) (g : ℕ → Bool) (S : List ℕ) → Each (λ i. k ≡ i → ⊥) S → tally g S ≡ tally (except k g) S
tally_other k g [] h = refl
tally_other k g (i ∷ S) h =
    let rest = tally_other k g S h.1 in
    let first = ap (λ (b : Bool). one b) (except_other k g i (λ e. h.0 (sym e))) in omega (arith, rest, first)

pub tally_none : (n : ℕ) (g : ℕ → Bool) → ((i : ℕ) → i < n → g i ≡ false) → tally_below g n ≡ 0
tally_none zero g h = refl
tally_none (suc n) g h =
    let rest = tally_none n g (λ i l. h i (omega (arith, l))) in
    let first = ap (λ (b : Bool). one b) (h n (omega arith)) in omega (arith, rest, first)

pub tallied : (n : ℕ) (S : List ℕ) (g : ℕ → Bool) → Pairs (λ i j. i ≡ j → ⊥) S → Each (λ i. i < n) S
    → ((i : ℕ) → i < n → (In i S → ⊥) → g i ≡ false) → tally g S ≡ tally_below g n
tallied n [] g s b h = sym (tally_none n g (λ i l. h i l (λ m. m)))
tallied n (k ∷ S) g s b h =
    let first = tally_other k g S s.0 in
    let rest = tallied n S (except k g) s.1 b.1 rest_of in
    let out = taken_out k n g b.0 in
    omega (arith, first, rest, out)
  where
    rest_of : (i : ℕ) → i < n → (In i S → ⊥) → except k g i ≡ false
    rest_of i l m = elim (same_or i k) [
      | inl e ↦ ap (except k g) e ∙ except_own k g
      | inr d ↦ except_other k g i d ∙ h i l (λ a. elim a [ inl e ↦ d e | inr c ↦ m c ])
    ]

-- ---- a test and another one that all of the list pass
and_yes : (a b : Bool) → b ≡ true → (a && b) ≡ a
and_yes true b e = e
and_yes false b e = refl

and_no : (a b : Bool) → b ≡ false → (a && b) ≡ false
and_no true b e = e
and_no false b e = refl

all_pass : (d g : ℕ → Bool) (S : List ℕ) → Each (λ i. g i ≡ true) S → tally (λ i. d i && g i) S ≡ tally d S
all_pass d g [] h = refl
all_pass d g (i ∷ S) h =
    let rest = all_pass d g S h.1 in
    let first = ap (λ (b : Bool). one b) (and_yes (d i) (g i) h.0) in omega (arith, rest, first)

pub tallied_where : (n : ℕ) (S : List ℕ) (d g : ℕ → Bool) → Pairs (λ i j. i ≡ j → ⊥) S → Each (λ i. i < n) S → Each (λ i. g i ≡ true) S
    → ((i : ℕ) → i < n → (In i S → ⊥) → g i ≡ false) → tally_below (λ i. d i && g i) n ≡ tally d S
tallied_where n S d g once numbers pass off =
    sym (tallied n S (λ i. d i && g i) once numbers (λ i l m. and_no (d i) (g i) (off i l m))) ∙ all_pass d g S pass

pub tally_off : (n : ℕ) (d g : ℕ → Bool) → ((i : ℕ) → i < n → g i ≡ false) → tally_below (λ i. d i && g i) n ≡ 0
tally_off n d g off = tally_none n (λ i. d i && g i) (λ i l. and_no (d i) (g i) (off i l))
