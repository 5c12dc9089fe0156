-- This file shows how the status of a slab comes from the segments at its wall.
use Rattle.std.proofs.Common.{◌⊎◌, ℕ, ◌<◌, ◌≤◌, List, [], ◌∷◌, ◌++◌, refl, arith, inl, inr}
use Rattle.grid_base.specs.Point.{GridPoint}
use Rattle.grid_base.specs.Segment.{GridSegment}
use Rattle.plane_cells.specs.Steps.{In, Each, Pairs}
use Rattle.plane_cells.proofs.Lists.{each_joined, each_left, each_right}
use Rattle.plane_cells.proofs.Walks.{Bound, None, Wall, IfWall, HasWall, IsAcross, Lies, Across, Ahead, Past, IsStatus}
pub use Rattle.plane_cells.specs.Walks.{IsHere}
pub use Rattle.plane_cells.proofs.Walks.{IsNextVertex, IsTurn}

-- ---- pairs of a list in two parts
abbrev pub Crosswise : (ℕ → ℕ → Type 0) → List ℕ → List ℕ → Type 0
Crosswise R A B = Each (λ i. Each (R i) B) A

pub pairs_joined : (R : ℕ → ℕ → Type 0) (A B : List ℕ) → Pairs R A → Pairs R B → Crosswise R A B → Pairs R (A ++ B)
pairs_joined R [] B h k c = k
pairs_joined R (i ∷ A) B h k c = (each_joined (R i) A B h.0 c.0, pairs_joined R A B h.1 k c.1)

pub pairs_left : (R : ℕ → ℕ → Type 0) (A B : List ℕ) → Pairs R (A ++ B) → Pairs R A
pairs_left R [] B h = tt
pairs_left R (i ∷ A) B h = (each_left (R i) A B h.0, pairs_left R A B h.1)

pub pairs_right : (R : ℕ → ℕ → Type 0) (A B : List ℕ) → Pairs R (A ++ B) → Pairs R B
pairs_right R [] B h = h
pairs_right R (i ∷ A) B h = pairs_right R A B h.1

pub pairs_across : (R : ℕ → ℕ → Type 0) (A B : List ℕ) → Pairs R (A ++ B) → Crosswise R A B
pairs_across R [] B h = tt
pairs_across R (i ∷ A) B h = (each_right (R i) A B h.0, pairs_across R A B h.1)

-- ---- the status just behind a wall
across_next : (n : ℕ) (seg : ℕ → GridSegment) (lo : Bound) (v : GridPoint) (i : ℕ) → IsNextVertex n seg lo v → i < n
    → HasWall (λ c. ((seg i).a.x ≤ c) × (c < (seg i).b.x)) lo → IsAcross n seg lo (Wall v.x) i
across_next n seg None v i s h b = absurd b
across_next n seg (Wall c) v i s h b = record {
  number = h;
  from = b.0;
  to = elim (s.none_between i (seg i).b h (inr refl)) [ inl k ↦ absurd (omega (arith, b.1, k)) | inr k ↦ k ];
}

each_with : (P Q R : ℕ → Type 0) (A : List ℕ) → ((i : ℕ) → P i → Q i → R i) → Each P A → Each Q A → Each R A
each_with P Q R [] f h k = tt
each_with P Q R (i ∷ A) f h k = (f i h.0 k.0, each_with P Q R A f h.1 k.1)

lies_next : (n : ℕ) (seg : ℕ → GridSegment) (lo : Bound) (v : GridPoint) (status : List ℕ) (i : ℕ) → IsNextVertex n seg lo v → i < n
    → In i status ⊎ (IfWall (λ c. c < (seg i).a.x) lo ⊎ HasWall (λ c. (seg i).b.x ≤ c) lo) → Lies seg lo (Wall v.x) status i
lies_next n seg lo v status i s h (inl m) = Across m
lies_next n seg None v status i s h (inr (inl m)) = elim (s.none_between i (seg i).a h (inl refl)) [ inl k ↦ absurd k | inr k ↦ Ahead k ]
lies_next n seg (Wall c) v status i s h (inr (inl m)) =
    elim (s.none_between i (seg i).a h (inl refl)) [ inl k ↦ absurd (omega (arith, m, k)) | inr k ↦ Ahead k ]
lies_next n seg None v status i s h (inr (inr m)) = absurd m
lies_next n seg (Wall c) v status i s h (inr (inr m)) = Past m

-- the status of the slab up to the next vertex
pub slab_status : (n : ℕ) (seg : ℕ → GridSegment) (lo : Bound) (v : GridPoint) (status : List ℕ) → IsHere n seg lo status
    → IsNextVertex n seg lo v → IsStatus n seg lo (Wall v.x) status
slab_status n seg lo v status h s = record {
  across = each_with (λ i. i < n) (λ i. HasWall (λ c. ((seg i).a.x ≤ c) × (c < (seg i).b.x)) lo) (IsAcross n seg lo (Wall v.x)) status
      (λ i a b. across_next n seg lo v i s a b) h.number h.begun;
  others = λ i l. lies_next n seg lo v status i s l (h.others i l);
  sorted = h.sorted;
}
