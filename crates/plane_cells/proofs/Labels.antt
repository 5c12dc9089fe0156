-- This file shows how the label of a place comes from the segments of its column.
use Rattle.std.proofs.Common.{◌≡◌, ◌⊎◌, ℕ, suc, ◌<◌, List, [], ◌∷◌, ◌++◌, refl, sym, ◌∙◌, arith, inl, inr}
use Rattle.grid_base.specs.Segment.{GridSegment}
use Rattle.grid_base.specs.Sides.{Side, Left, On, Right}
use Rattle.grid_base.specs.Plane.{Place, side_at, Spans}
use Rattle.plane_cells.specs.Steps.{Each, Pairs, label_over}
pub use Rattle.plane_cells.specs.Order.{IsFurtherDown}
pub use Rattle.plane_cells.specs.Labels.{pick, label_at}
use Rattle.plane_cells.proofs.Lists.{each_map, each_both}
use Rattle.plane_cells.proofs.AlongSegments.{right_of_upper}

abbrev pub IsOver : (ℕ → GridSegment) → Place → ℕ → Type 0
IsOver seg q i = side_at (seg i) q ≡ Left

abbrev pub IsUnder : (ℕ → GridSegment) → Place → ℕ → Type 0
IsUnder seg q i = side_at (seg i) q ≡ Right

abbrev pub IsOff : (ℕ → GridSegment) → Place → ℕ → Type 0
IsOff seg q i = side_at (seg i) q ≡ On → ⊥

abbrev pub IsAlike : (ℕ → GridSegment) → Place → Place → ℕ → Type 0
IsAlike seg p q i = side_at (seg i) p ≡ side_at (seg i) q

pub label_joined : (seg : ℕ → GridSegment) (q : Place) (d : ℕ) (A B : List ℕ)
    → label_at seg q d (A ++ B) ≡ label_at seg q (label_at seg q d A) B
label_joined seg q d [] B = refl
label_joined seg q d (i ∷ A) B = label_joined seg q (pick (side_at (seg i) q) i d) A B

pub over_joined : (d : ℕ) (A B : List ℕ) → label_over d (A ++ B) ≡ label_over (label_over d A) B
over_joined d [] B = refl
over_joined d (i ∷ A) B = over_joined (suc i) A B

pub label_of_over : (seg : ℕ → GridSegment) (q : Place) (d : ℕ) (A : List ℕ) → Each (IsOver seg q) A → label_at seg q d A ≡ label_over d A
label_of_over seg q d [] h = refl
label_of_over seg q d (i ∷ A) h = rw h.0 (label_of_over seg q (suc i) A h.1)

pub label_of_under : (seg : ℕ → GridSegment) (q : Place) (d : ℕ) (A : List ℕ) → Each (IsUnder seg q) A → label_at seg q d A ≡ d
label_of_under seg q d [] h = refl
label_of_under seg q d (i ∷ A) h = rw h.0 (label_of_under seg q d A h.1)

pub label_alike : (seg : ℕ → GridSegment) (p q : Place) (d : ℕ) (A : List ℕ) → Each (IsAlike seg p q) A
    → label_at seg p d A ≡ label_at seg q d A
label_alike seg p q d [] h = refl
label_alike seg p q d (i ∷ A) h = rw h.0 (label_alike seg p q (pick (side_at (seg i) q) i d) A h.1)

-- the label comes from the list, or is the one before it
pub label_kept : (seg : ℕ → GridSegment) (q : Place) (P : ℕ → Type 0) (d : ℕ) (A : List ℕ) → P d → Each (λ i. P (suc i)) A
    → P (label_at seg q d A)
label_kept seg q P d [] h k = h
label_kept seg q P d (i ∷ A) h k = label_kept seg q P (pick (side_at (seg i) q) i d) A (picked (side_at (seg i) q)) k.1
  where
    picked : (e : Side) → P (pick e i d)
    picked Left = k.0
    picked On = h
    picked Right = h

-- with another label before the list the label is the same, or both stay
pub label_seed : (seg : ℕ → GridSegment) (q : Place) (x y : ℕ) (A : List ℕ)
    → (label_at seg q x A ≡ label_at seg q y A) ⊎ ((label_at seg q x A ≡ x) × (label_at seg q y A ≡ y))
label_seed seg q x y [] = inr (refl, refl)
label_seed seg q x y (i ∷ A) = go (side_at (seg i) q) (label_seed seg q x y A)
  where
    go : (e : Side) → (label_at seg q x A ≡ label_at seg q y A) ⊎ ((label_at seg q x A ≡ x) × (label_at seg q y A ≡ y))
        → (label_at seg q (pick e i x) A ≡ label_at seg q (pick e i y) A)
        ⊎ ((label_at seg q (pick e i x) A ≡ x) × (label_at seg q (pick e i y) A ≡ y))
    go Left h = inl refl
    go On h = h
    go Right h = h

-- ---- places with one label are alike
-- what a place off all segments of the list, in a column of each, sees of one of them
pub record IsSeen (seg : ℕ → GridSegment) (q : Place) (i : ℕ) : Type 0 where
  pub spans : Spans (seg i) q
  pub off : IsOff seg q i

pub rest_under : (seg : ℕ → GridSegment) (q : Place) (i : ℕ) (A : List ℕ) → 0 < q.w → Spans (seg i) q → IsUnder seg q i
    → Each (IsFurtherDown seg i) A → Each (λ j. Spans (seg j) q) A → Each (IsUnder seg q) A
rest_under seg q i A real s h d a = each_both (IsFurtherDown seg i) (λ j. Spans (seg j) q) (IsUnder seg q) A
    (λ j f t. right_of_upper (side_at (seg j) q) (side_at (seg i) q) (f.1 q real s t) h) d a

-- on one side or on the other
pub data Seen (seg : ℕ → GridSegment) (q : Place) (i : ℕ) : Type 0 where
  Over : IsOver seg q i → Seen seg q i
  Under : IsUnder seg q i → Seen seg q i

pub seen : (seg : ℕ → GridSegment) (q : Place) (i : ℕ) → IsOff seg q i → Seen seg q i
seen seg q i off = go (side_at (seg i) q) refl
  where
    go : (e : Side) → side_at (seg i) q ≡ e → Seen seg q i
    go Left h = Over h
    go On h = absurd (off h)
    go Right h = Under h

-- no label of the list is d
abbrev pub IsFresh : ℕ → List ℕ → Type 0
IsFresh d A = Each (λ i. d ≡ suc i → ⊥) A

spans_of : (seg : ℕ → GridSegment) (q : Place) (A : List ℕ) → Each (IsSeen seg q) A → Each (λ j. Spans (seg j) q) A
spans_of seg q A h = each_map (IsSeen seg q) (λ j. Spans (seg j) q) A (λ j s. s.spans) h

both_under : (seg : ℕ → GridSegment) (p q : Place) (A : List ℕ) → Each (IsUnder seg p) A → Each (IsUnder seg q) A → Each (IsAlike seg p q) A
both_under seg p q A h k = each_both (IsUnder seg p) (IsUnder seg q) (IsAlike seg p q) A (λ i a b. a ∙ sym b) h k

next_fresh : (seg : ℕ → GridSegment) (i : ℕ) (A : List ℕ) → Each (IsFurtherDown seg i) A → IsFresh (suc i) A
next_fresh seg i A h = each_map (IsFurtherDown seg i) (λ j. suc i ≡ suc j → ⊥) A (λ j f e. f.0 (omega (arith, e))) h

-- the label isn't d, where d isn't the label before and none of the list
not_label : (seg : ℕ → GridSegment) (q : Place) (d e : ℕ) (A : List ℕ) → (d ≡ e → ⊥) → IsFresh d A → d ≡ label_at seg q e A → ⊥
not_label seg q d e A h f = label_kept seg q (λ x. d ≡ x → ⊥) e A h f

pub alike_by_label : (seg : ℕ → GridSegment) (p q : Place) (d : ℕ) (A : List ℕ) → 0 < p.w → 0 < q.w → Each (IsSeen seg p) A
    → Each (IsSeen seg q) A → Pairs (IsFurtherDown seg) A → IsFresh d A
    → label_at seg p d A ≡ label_at seg q d A → Each (IsAlike seg p q) A
alike_by_label seg p q d [] hp hq a b s f e = tt
alike_by_label seg p q d (i ∷ A) hp hq a b s f e =
    go (seen seg p i a.0.off) (seen seg q i b.0.off) (alike_by_label seg p q (suc i) A hp hq a.1 b.1 s.1 (next_fresh seg i A s.0))
  where
    under_p : IsUnder seg p i → Each (IsUnder seg p) A
    under_p h = rest_under seg p i A hp a.0.spans h s.0 (spans_of seg p A a.1)

    under_q : IsUnder seg q i → Each (IsUnder seg q) A
    under_q h = rest_under seg q i A hq b.0.spans h s.0 (spans_of seg q A b.1)

    go : Seen seg p i → Seen seg q i → (label_at seg p (suc i) A ≡ label_at seg q (suc i) A → Each (IsAlike seg p q) A)
        → Each (IsAlike seg p q) (i ∷ A)
    go (Over h) (Over k) rest = (h ∙ sym k, rest (rw (h, k) at e))
    go (Under h) (Under k) rest = (h ∙ sym k, both_under seg p q A (under_p h) (under_q k))
    go (Over h) (Under k) rest =
        let g : label_at seg p (suc i) A ≡ label_at seg q d A = rw (h, k) at e in
        absurd (not_label seg p d (suc i) A f.0 f.1 (sym (g ∙ label_of_under seg q d A (under_q k))))
    go (Under h) (Over k) rest =
        let g : label_at seg p d A ≡ label_at seg q (suc i) A = rw (h, k) at e in
        absurd (not_label seg q d (suc i) A f.0 f.1 (sym (label_of_under seg p d A (under_p h)) ∙ g))
