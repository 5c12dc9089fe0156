-- This file shows that names stay those of the parts as two parts become one, and as each name is settled.
use Rattle.std.proofs.Common.{◌≡◌, ◌≢◌, ℕ, ◌<◌, ◌==◌, cond, min, max, List, length, get_or, set}
use Rattle.std.proofs.Common.{refl, sym, ap, subst, ◌∙◌, ⊎_elim, arith, get_or-set_same, get_or-set_other}
use Rattle.std.proofs.Math.ListN.{length-set}
use Rattle.std.proofs.lemmas.Bool.{cases_eq}
use Rattle.std.proofs.lemmas.Bool.Decides.{nat_tests}
use Rattle.linked_parts.specs.Kept.{Names, united}

-- numbers of one part stay in one part
pub united_same : (least : ℕ → ℕ) (i j k m : ℕ) → least k ≡ least m → united least i j k ≡ united least i j m
united_same least i j k m same = ap (λ n. cond (n == max (least i) (least j)) (min (least i) (least j)) n) same

-- the greater of two leasts gives way
pub united_high : (least : ℕ → ℕ) (i j high : ℕ) → least high ≡ max (least i) (least j) → united least i j high ≡ min (least i) (least j)
united_high least i j high is = grind (arith, nat_tests)

-- and the lesser stays
united_low : (least : ℕ → ℕ) (i j low : ℕ) → least low ≡ min (least i) (least j) → united least i j low ≡ min (least i) (least j)
united_low least i j low is = grind (arith, nat_tests)

pub united_other : (least : ℕ → ℕ) (i j k : ℕ) → least k ≢ max (least i) (least j) → united least i j k ≡ least k
united_other least i j k other = grind (arith, nat_tests)

-- of two numbers that are leasts of their parts, the lesser and the greater are too
pub root_of_min : (least : ℕ → ℕ) (a b : ℕ) → least a ≡ a → least b ≡ b → least (min a b) ≡ min a b
root_of_min least a b a_root b_root = grind arith

pub root_of_max : (least : ℕ → ℕ) (a b : ℕ) → least a ≡ a → least b ≡ b → least (max a b) ≡ max a b
root_of_max least a b a_root b_root = grind arith

-- the greater of the two leasts names the lesser now
pub names_united : (above : List ℕ) (least : ℕ → ℕ) (i j low high : ℕ) → Names above least → high < length above
    → low ≡ min (least i) (least j) → high ≡ max (least i) (least j) → least low ≡ low → least high ≡ high
    → Names (set above high low) (united least i j)
names_united above least i j low high names within is_low is_high low_root high_root = record {
  same = λ k below. ⊎_elim
      (λ (this : k ≡ high).
      let here : get_or (set above high low) k 0 ≡ low = ap (λ n. get_or (set above high low) n 0) this ∙ (rw get_or-set_same refl) in
      ap (united least i j) here ∙ united_low least i j low (low_root ∙ is_low)
      ∙ sym (united_high least i j high (high_root ∙ is_high)) ∙ ap (united least i j) (sym this))
      (λ (other : k ≢ high).
      let there : get_or (set above high low) k 0 ≡ get_or above k 0 = rw get_or-set_other refl in
      let inside = subst (λ n. k < n) (length-set above high low) below in
      ap (united least i j) there ∙ united_same least i j (get_or above k 0) k (names.same k inside))
      (cases_eq k high);
  root = λ k below itself. ⊎_elim
      (λ (this : k ≡ high).
      let here : get_or (set above high low) k 0 ≡ low = ap (λ n. get_or (set above high low) n 0) this ∙ (rw get_or-set_same refl) in
      ap (united least i j) this ∙ united_high least i j high (high_root ∙ is_high) ∙ sym is_low ∙ sym here ∙ itself)
      (λ (other : k ≢ high).
      let there : get_or (set above high low) k 0 ≡ get_or above k 0 = rw get_or-set_other refl in
      let root = names.root k (subst (λ n. k < n) (length-set above high low) below) (sym there ∙ itself) in
      united_other least i j k (λ same. other (sym root ∙ same ∙ sym is_high)) ∙ root)
      (cases_eq k high);
}
