-- This file shows what the links of a list are, the first of them and the others.
use Rattle.std.proofs.Common.{◌≡◌, ℕ, [], ◌∷◌, sym, ap, inl, inr}
use Rattle.linked_parts.specs.Parts.{Links, IsLink, AreLinked}
use Rattle.grid_base.proofs.Elements.{Contains-here, Contains-later, Contains-cases, Contains-nil}
use Rattle.linked_parts.proofs.LinkedNumbers.{linked_more}

pub linked_same : (L : Links) (x y : ℕ) → x ≡ y → AreLinked L x y
linked_same L x y e = ([], e)

pub link_here : (l : ℕ × ℕ) (L : Links) → IsLink (l ∷ L) l.0 l.1
link_here l L = inl (Contains-here l L)

pub link_later : (l : ℕ × ℕ) (L : Links) (x y : ℕ) → IsLink L x y → IsLink (l ∷ L) x y
link_later l L x y (inl h) = inl (Contains-later l L (x, y) h)
link_later l L x y (inr h) = inr (Contains-later l L (y, x) h)

pub no_link : (x y : ℕ) → IsLink [] x y → ⊥
no_link x y (inl h) = Contains-nil (x, y) h
no_link x y (inr h) = Contains-nil (y, x) h

-- a link is the first one, or the first one back, or a later one
pub data Placed (l : ℕ × ℕ) (L : Links) (x y : ℕ) : Type 0 where
  First : x ≡ l.0 → y ≡ l.1 → Placed l L x y
  Back : y ≡ l.0 → x ≡ l.1 → Placed l L x y
  Later : IsLink L x y → Placed l L x y

pub placed : (l : ℕ × ℕ) (L : Links) (x y : ℕ) → IsLink (l ∷ L) x y → Placed l L x y
placed l L x y (inl h) = elim (Contains-cases l L (x, y) h) [
  | inl e ↦ First (sym (ap (λ (p : ℕ × ℕ). p.0) e)) (sym (ap (λ (p : ℕ × ℕ). p.1) e))
  | inr m ↦ Later (inl m)
]
placed l L x y (inr h) = elim (Contains-cases l L (y, x) h) [
  | inl e ↦ Back (sym (ap (λ (p : ℕ × ℕ). p.0) e)) (sym (ap (λ (p : ℕ × ℕ). p.1) e))
  | inr m ↦ Later (inr m)
]

pub linked_later : (l : ℕ × ℕ) (L : Links) (x y : ℕ) → AreLinked L x y → AreLinked (l ∷ L) x y
linked_later l L x y h = linked_more L (l ∷ L) (λ k there. Contains-later l L k there) x y h
