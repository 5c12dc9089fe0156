-- This file shows how the labels under segments are written into a list.
use Rattle.std.proofs.Common.{◌≡◌, ℕ, zero, suc, ◌+◌, ◌-◌, ◌<◌, ◌≤◌, List, [], ◌∷◌, ◌++◌, length, take, get_or, set, slice_index, refl, sym}
use Rattle.std.proofs.Common.{ap, subst, ◌∙◌, arith, inl, inr}
use Rattle.std.proofs.lemmas.List.{take_all, length-set, get_or-set_same, get_or-set_other}
use Rattle.plane_cells.specs.Steps.{In, Each, Pairs, HasRights, label_over}
use Rattle.plane_cells.proofs.Lists.{in_left, in_right}
use Rattle.plane_cells.proofs.Labels.{over_joined}
use Rattle.plane_cells.proofs.Parts.{taken_more, each_read, label_from}

-- the label over the last
pub label_last : (l : List ℕ) (d : ℕ) → 0 < length l → get_or l (length l - 1) 0 + 1 ≡ label_over d l
label_last l d h =
    let e : suc (length l - 1) ≡ length l = omega (arith, h) in
    sym (label_from l (length l - 1) d 0 (omega (arith, h))) ∙ ap (λ (n : ℕ). label_over d (take n l)) e ∙ ap
    (λ (k : List ℕ). label_over d k) (take_all (length l) l (omega arith))

-- so far
pub record AreRights (fan : List ℕ) (under : ℕ) (old new : List ℕ) (top : ℕ) : Type 0 where
  pub rights : HasRights (λ i. slice_index new i) under fan
  pub label : top ≡ label_over under fan
  pub kept : (i : ℕ) → (In i fan → ⊥) → slice_index new i ≡ slice_index old i
  pub size : length new ≡ length old

rights_kept : (f g : ℕ → ℕ) (d : ℕ) (A : List ℕ) → Each (λ i. g i ≡ f i) A → HasRights f d A → HasRights g d A
rights_kept f g d [] e h = tt
rights_kept f g d (i ∷ A) e h = (e.0 ∙ h.0, rights_kept f g (suc i) A e.1 h.1)

rights_pushed : (f : ℕ → ℕ) (d : ℕ) (A : List ℕ) (i : ℕ) → HasRights f d A → f i ≡ label_over d A → HasRights f d (A ++ i ∷ [])
rights_pushed f d [] i h e = (e, tt)
rights_pushed f d (j ∷ A) i h e = (h.0, rights_pushed f (suc j) A i h.1 e)

-- an element isn't among those before it
once_before : (l : List ℕ) (m x : ℕ) → Pairs (λ i j. i ≡ j → ⊥) l → m < length l → x ≡ get_or l m x → Each (λ j. j ≡ x → ⊥) (take m l)
once_before [] zero x s h e = tt
once_before [] (suc m) x s h e = tt
once_before (i ∷ l) zero x s h e = tt
once_before (i ∷ l) (suc m) x s h e = (λ f. first f, once_before l m x s.1 (omega (arith, h)) e)
  where
    first : i ≡ x → ⊥
    first f = each_read (λ j. i ≡ j → ⊥) l m x s.0 (omega (arith, h)) (f ∙ e)

not_in : (A : List ℕ) (x : ℕ) → Each (λ j. j ≡ x → ⊥) A → In x A → ⊥
not_in [] x h m = m
not_in (j ∷ A) x h (inl e) = h.0 (sym e)
not_in (j ∷ A) x h (inr m) = not_in A x h.1 m

each_set : (l : List ℕ) (x v : ℕ) (A : List ℕ) → Each (λ j. j ≡ x → ⊥) A → Each (λ j. slice_index (set l x v) j ≡ slice_index l j) A
each_set l x v [] h = tt
each_set l x v (j ∷ A) h = (get_or-set_other l x j v 0 h.0, each_set l x v A h.1)

pub rights_more : (fan : List ℕ) (under m x : ℕ) (old new new' : List ℕ) (label label' : ℕ) → Pairs (λ i j. i ≡ j → ⊥) fan
    → AreRights (take m fan) under old new label → m < length fan → x ≡ get_or fan m x → x < length old
    → new' ≡ set new x label → label' ≡ x + 1 → AreRights (take (m + 1) fan) under old new' label'
rights_more fan under m x old new new' label label' once h l e small is k =
    let more = taken_more fan m x l e in
    let apart = once_before fan m x once l e in
    subst (λ (A : List ℕ). AreRights A under old new' label') (sym more)
    (subst (λ (n : List ℕ). AreRights (take m fan ++ x ∷ []) under old n label') (sym is) (record {
      rights = rights_pushed (λ i. slice_index (set new x label) i) under (take m fan) x
          (rights_kept (λ i. slice_index new i) (λ i. slice_index (set new x label) i) under (take m fan)
          (each_set new x label (take m fan) apart) h.rights)
          (get_or-set_same new x label 0 (omega (arith, small, h.size)) ∙ h.label);
      label = k ∙ sym (over_joined under (take m fan) (x ∷ []) ∙ omega arith);
      kept = λ i n. get_or-set_other new x i label 0 (λ f. n (in_right i (take m fan) (x ∷ []) (inl f))) ∙ h.kept i
          (λ a. n (in_left i (take m fan) (x ∷ []) a));
      size = length-set new x label ∙ h.size;
    }))

pub all_rights : (fan : List ℕ) (under m : ℕ) (old new : List ℕ) (label : ℕ) → length fan ≤ m → AreRights (take m fan) under old new label
    → AreRights fan under old new label
all_rights fan under m old new label h k = subst (λ (A : List ℕ). AreRights A under old new label) (take_all m fan h) k
