-- This file shows that going up in a column a property of classes changes exactly at the segments whose two sides differ by it.
use Rattle.std.proofs.Common.{◌≡◌, ℕ, suc, Bool, true, false, List, [], ◌∷◌, ◌++◌, refl, sym, ap, subst, ◌∙◌}
use Rattle.plane_classes.proofs.Parities.{xor, par, xor_same}
use Rattle.plane_cells.specs.Steps.{Step, before, after, link, label_over}
use Rattle.linked_parts.specs.Parts.{Links, IsLink, LeadsOver, AreLinked}
use Rattle.linked_parts.proofs.LinkedNumbers.{linked_both}
use Rattle.plane_cells.proofs.Labels.{over_joined}
use Rattle.plane_cells.proofs.Beside.{AreRight, right_first, right_last}

-- f doesn't tell linked labels apart
abbrev pub Respects : Links → (ℕ → Bool) → Type 0
Respects L f = (x y : ℕ) → IsLink L x y → f x ≡ f y

pub respected : (L : Links) (f : ℕ → Bool) → Respects L f → (x y : ℕ) (c : List ℕ) → LeadsOver L x c y → f x ≡ f y
respected L f h x y [] e = ap f e
respected L f h x y (z ∷ c) e = h x z e.0 ∙ respected L f h z y c e.1

-- the two sides of segment i differ by f
abbrev pub divides : (ℕ → Bool) → (ℕ → ℕ) → ℕ → Bool
divides f right i = xor (f (suc i)) (f (right i))

around : (a b c : Bool) → xor (xor a b) (xor a c) ≡ xor b c
around true true true = refl
around true true false = refl
around true false true = refl
around true false false = refl
around false b c = refl

-- from the label under the list to the one over it
pub changes_up : (L : Links) (right : ℕ → ℕ) (f : ℕ → Bool) (d : ℕ) (C : List ℕ) → Respects L f → AreRight L right d C
    → par (divides f right) C ≡ xor (f d) (f (label_over d C))
changes_up L right f d [] h r = sym (xor_same (f d))
changes_up L right f d (i ∷ C) h r =
    let e = respected L f h (right i) d r.0.0 r.0.1 in
    ap (λ (b : Bool). xor (xor (f (suc i)) b) (par (divides f right) C)) e
    ∙ ap (λ (b : Bool). xor (xor (f (suc i)) (f d)) b) (changes_up L right f (suc i) C h r.1)
    ∙ around (f (suc i)) (f d) (f (label_over (suc i) C))

-- ---- the label over all is linked with 0
pub top_kept : (L : Links) (k : Step) → AreLinked L (link k).0 (link k).1 → AreLinked L 0 (label_over 0 (before k))
    → AreLinked L 0 (label_over 0 (after k))
top_kept L k l h = go k.above (subst (AreLinked L 0) (before_is k.above) h)
  where
    before_is : (C : List ℕ) → label_over 0 (k.below ++ (k.ends ++ C)) ≡ label_over (link k).0 C
    before_is C = over_joined 0 k.below (k.ends ++ C) ∙ over_joined (label_over 0 k.below) k.ends C ∙ ap (λ (d : ℕ). label_over d C)
        (sym (over_joined 0 k.below k.ends))

    after_is : (C : List ℕ) → label_over 0 (k.below ++ (k.begins ++ C)) ≡ label_over (link k).1 C
    after_is C = over_joined 0 k.below (k.begins ++ C) ∙ over_joined (label_over 0 k.below) k.begins C ∙ ap (λ (d : ℕ). label_over d C)
        (sym (over_joined 0 k.below k.begins))

    go : (C : List ℕ) → AreLinked L 0 (label_over (link k).0 C) → AreLinked L 0 (label_over 0 (k.below ++ (k.begins ++ C)))
    go [] g = subst (AreLinked L 0) (sym (after_is [])) (linked_both L 0 (link k).0 (link k).1 g l)
    go (i ∷ C) g = subst (AreLinked L 0) (sym (after_is (i ∷ C))) g

-- ---- round a vertex: those that end there and those that begin there divide an even number of times together
pub even_at_vertex : (L : Links) (right : ℕ → ℕ) (f : ℕ → Bool) (A E N C : List ℕ) → Respects L f → AreRight L right 0 (A ++ (E ++ C))
    → AreRight L right 0 (A ++ (N ++ C)) → f (label_over 0 (A ++ E)) ≡ f (label_over 0 (A ++ N))
    → par (divides f right) E ≡ par (divides f right) N
even_at_vertex L right f A E N C h r s e =
    changes_up L right f (label_over 0 A) E h (first E (right_last L right 0 A (E ++ C) r))
    ∙ ap (λ (b : Bool). xor (f (label_over 0 A)) b) (ap f (sym (over_joined 0 A E)) ∙ e ∙ ap f (over_joined 0 A N))
    ∙ sym (changes_up L right f (label_over 0 A) N h (first N (right_last L right 0 A (N ++ C) s)))
  where
    first : (B : List ℕ) → AreRight L right (label_over 0 A) (B ++ C) → AreRight L right (label_over 0 A) B
    first B h = right_first L right (label_over 0 A) B C h
