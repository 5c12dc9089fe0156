-- This file shows how steps are put together, one after another.
use Rattle.std.proofs.Common.{◌≡◌, ◌⊎◌, ℕ, ◌<◌, ◌≤◌, List, [], ◌∷◌, ◌++◌, refl, sym, ap, subst, ◌∙◌, arith, inl, inr}
use Rattle.grid_base.specs.Segment.{GridSegment}
use Rattle.plane_cells.specs.Steps.{Step, before, after, In, Each, link, links, HaveRights, HasRights, label_over}
use Rattle.linked_parts.specs.Parts.{Links}
use Rattle.plane_cells.specs.Walks.{Bound, None, Wall, IfWall, HasWall, IsAcross, Lies, Past, IsStatus, IsStep, Walk, WalkTo, IsHere}

pub one_more : (n : ℕ) (seg : ℕ → GridSegment) (lo : Bound) (status : List ℕ) (steps : List Step) (lo' : Bound) (status' : List ℕ) (k :
    Step) → WalkTo n seg lo status steps lo' status'
    → status' ≡ before k → IsStep n seg k → IfWall (λ c. c < k.vertex.x) lo' → IsStatus n seg lo' (Wall k.vertex.x) status'
    → WalkTo n seg lo status (steps ++ k ∷ []) (Wall k.vertex.x) (after k)
one_more n seg lo status [] lo' status' k w e s l st = (
  w.1 ∙ e,
  s,
  subst (IfWall (λ c. c < k.vertex.x)) (sym w.0) l,
  subst (λ (b : Bound). IsStatus n seg b (Wall k.vertex.x) status)
      (sym w.0) (subst (IsStatus n seg lo' (Wall k.vertex.x)) (sym w.1) st),
  (refl, refl),
)
one_more n seg lo status (j ∷ steps) lo' status' k w e s l st =
    (w.0, w.1, w.2, w.3, one_more n seg (Wall j.vertex.x) (after j) steps lo' status' k w.4 e s l st)

pub to_the_end : (n : ℕ) (seg : ℕ → GridSegment) (lo : Bound) (status : List ℕ) (steps : List Step) (lo' : Bound) (status' : List ℕ)
    → WalkTo n seg lo status steps lo' status' → IsStatus n seg lo' None status' → Walk n seg lo status steps
to_the_end n seg lo status [] lo' status' w st = subst (λ (b : Bound). IsStatus n seg b None status) (sym w.0)
    (subst (IsStatus n seg lo' None) (sym w.1) st)
to_the_end n seg lo status (k ∷ steps) lo' status' w st =
    (w.0, w.1, w.2, w.3, to_the_end n seg (Wall k.vertex.x) (after k) steps lo' status' w.4 st)

pub links_more : (steps : List Step) (k : Step) → links (steps ++ k ∷ []) ≡ links steps ++ link k ∷ []
links_more [] k = refl
links_more (j ∷ steps) k = ap (λ (L : Links). link j ∷ L) (links_more steps k)

pub rights_more : (right : ℕ → ℕ) (steps : List Step) (k : Step) → HaveRights right steps → HasRights right (label_over 0 k.below) k.begins
    → HaveRights right (steps ++ k ∷ [])
rights_more right [] k h g = (g, tt)
rights_more right (j ∷ steps) k h g = (h.0, rights_more right steps k h.1 g)

-- ---- behind the last vertex
empty_here : (n : ℕ) (seg : ℕ → GridSegment) (lo : Bound) (i : ℕ) → HasWall (λ c. ((seg i).a.x ≤ c) × (c < (seg i).b.x)) lo
    → HasWall (λ c. (seg i).b.x ≤ c) lo → ⊥
empty_here n seg None i h k = h
empty_here n seg (Wall c) i h k = omega (arith, h.1, k)

past_last : (n : ℕ) (seg : ℕ → GridSegment) (lo : Bound) (status : List ℕ) (i : ℕ)
    → In i status ⊎ (IfWall (λ c. c < (seg i).a.x) lo ⊎ HasWall (λ c. (seg i).b.x ≤ c) lo) → HasWall (λ c. (seg i).b.x ≤ c) lo
    → Lies seg lo None status i
past_last n seg lo status i h k = Past k

each_with : (P Q R : ℕ → Type 0) (A : List ℕ) → ((i : ℕ) → P i → Q i → R i) → Each P A → Each Q A → Each R A
each_with P Q R [] f h k = tt
each_with P Q R (i ∷ A) f h k = (f i h.0 k.0, each_with P Q R A f h.1 k.1)

pub last_status : (n : ℕ) (seg : ℕ → GridSegment) (lo : Bound) (status : List ℕ) → IsHere n seg lo status
    → ((i : ℕ) → i < n → HasWall (λ c. (seg i).b.x ≤ c) lo) → IsStatus n seg lo None status
last_status n seg lo status h e = record {
  across = each_with (λ i. i < n) (λ i. HasWall (λ c. ((seg i).a.x ≤ c) × (c < (seg i).b.x)) lo) (IsAcross n seg lo None) status
      (λ i l b. absurd (empty_here n seg lo i b (e i l))) h.number h.begun;
  others = λ i l. Past (e i l);
  sorted = h.sorted;
}

-- ---- before the first vertex
pub first_here : (n : ℕ) (seg : ℕ → GridSegment) → IsHere n seg None []
first_here n seg = record { number = tt; begun = tt; others = λ i l. inr (inl tt); sorted = tt }
