-- This file shows which pieces a list has once they are noted with their keys, one after the other.
use Rattle.std.proofs.Common.{◌≡◌, ◌⊎◌, ℕ, List, [], ◌∷◌, ◌++◌, Contains, sym, ap, subst, inl, inr}
use Rattle.std.proofs.lemmas.List.Elements.{Contains-append_left, Contains-push, Contains-push_cases}
use Rattle.grid_base.specs.Segment.{GridSegment}
use Rattle.grid_base.proofs.Elements.{Contains-nil}
use Rattle.realm_drawing.specs.Keyed.{KeyedDrawing, HasKey, AreKeyed, keyed}
use Rattle.realm_drawing.specs.declared.keyed.KeyedPiece.{KeyedPiece}
use Rattle.realm_insert.specs.Indexing.{ListsWithKey, ListsKeyed}

-- a piece comes last with its key
pub lists_piece : (d : KeyedDrawing) (s : GridSegment) (key : ℕ) (old : List KeyedPiece) → AreKeyed d → HasKey d s key
    → ListsWithKey d s old (old ++ keyed s key ∷ [])
lists_piece d s key old are has = λ t k. (
  λ there. elim (Contains-push_cases old (keyed s key) (keyed t k) there) [
    | inl earlier ↦ inl earlier
    | inr last ↦ inr (
      sym (ap (λ (f : KeyedPiece). f.piece) last),
      subst (HasKey d s) (ap (λ (f : KeyedPiece). f.key) last) has,
    )
  ],
  λ either. elim either [
    | inl earlier ↦ Contains-append_left old (keyed s key ∷ []) (keyed t k) earlier
    | inr (same, has_k) ↦
        let one = are.one_key s key k has has_k in
        let here : keyed s key ≡ keyed t k = λ i. keyed (sym same i) (one i) in
        subst (Contains (old ++ keyed s key ∷ [])) here (Contains-push old (keyed s key))
  ],
)

-- what is no piece isn't listed
pub lists_no_piece : (d : KeyedDrawing) (s : GridSegment) (old : List KeyedPiece) → ((k : ℕ) → HasKey d s k → ⊥)
    → ListsWithKey d s old old
lists_no_piece d s old none = λ t k. (
  λ there. inl there,
  λ either. elim either [ inl there ↦ there | inr (same, has) ↦ absurd (none k has) ],
)

-- one piece is listed
pub lists_one : (d : KeyedDrawing) (t : GridSegment) (list : List KeyedPiece) → ListsWithKey d t [] list
    → ListsKeyed d (λ s. s ≡ t) list
lists_one d t list lists = λ s k. (
  λ there. elim ((lists s k).0 there) [
    | inl none ↦ absurd (Contains-nil (keyed s k) none)
    | inr (same, has) ↦ (same, subst (λ (r : GridSegment). HasKey d r k) (sym same) has)
  ],
  λ (same, has). (lists s k).1 (inr (same, subst (λ (r : GridSegment). HasKey d r k) same has)),
)

-- and another after it
pub lists_two : (d : KeyedDrawing) (t u : GridSegment) (mid list : List KeyedPiece) → ListsKeyed d (λ s. s ≡ t) mid
    → ListsWithKey d u mid list → ListsKeyed d (λ s. (s ≡ t) ⊎ (s ≡ u)) list
lists_two d t u mid list first second = λ s k. (
  λ there. elim ((second s k).0 there) [
    | inl earlier ↦ let was = (first s k).0 earlier in (inl was.0, was.1)
    | inr (same, has) ↦ (inr same, subst (λ (r : GridSegment). HasKey d r k) (sym same) has)
  ],
  λ (either, has). elim either [
    | inl same ↦ (second s k).1 (inl ((first s k).1 (same, has)))
    | inr same ↦ (second s k).1 (inr (same, subst (λ (r : GridSegment). HasKey d r k) same has))
  ],
)
