-- This file shows that the steps of a sweep say which label each segment has on its right.
use Rattle.std.proofs.Common.{◌≡◌, ◌⊎◌, ℕ, suc, ◌<◌, ◌==◌, Bool, true, false, if◌then◌else◌, List, [], ◌∷◌, ◌++◌, refl, sym, ap, ◌∙◌}
use Rattle.std.proofs.Common.{subst, arith, inl, inr}
use Rattle.grid_base.specs.Point.{GridPoint}
use Rattle.grid_base.specs.Segment.{GridSegment}
use Rattle.plane_cells.specs.Order.{IsFurtherDown}
use Rattle.plane_cells.specs.Steps.{Step, after, In, Each, Pairs, link, links, label_over, HasRights, HaveRights}
use Rattle.plane_cells.specs.Walks.{Bound, None, Wall, IfWall, Walk}
use Rattle.std.proofs.Common.{Contains}
use Rattle.grid_base.proofs.Elements.{Contains-cases, Contains-nil}
use Rattle.plane_cells.proofs.Lists.{each_at, each_joined}
use Rattle.plane_cells.proofs.Statuses.{pairs_left, pairs_right}
use Rattle.plane_cells.proofs.Complete.{walk_status, step_numbers}
use Rattle.plane_cells.proofs.ColumnParity.{distinct}
use Rattle.plane_cells.proofs.StatusCounts.{same_yes, same_no}

-- ---- the label under i in a list, d being that under the first
abbrev pub looked_up : ℕ → List ℕ → ℕ → ℕ → ℕ
looked_up d [] i e = e
looked_up d (j ∷ l) i e = if i == j then d else looked_up (suc j) l i e

-- the label under i where it begins
abbrev pub right_in : List Step → ℕ → ℕ
right_in [] i = 0
right_in (k ∷ steps) i = looked_up (label_over 0 k.below) k.begins i (right_in steps i)

here_is : (d : ℕ) (j : ℕ) (l : List ℕ) (e : ℕ) → looked_up d (j ∷ l) j e ≡ d
here_is d j l e = rw (same_yes j) refl

later_is : (d : ℕ) (j : ℕ) (l : List ℕ) (i e : ℕ) → (i ≡ j → ⊥) → looked_up d (j ∷ l) i e ≡ looked_up (suc j) l i e
later_is d j l i e h = rw (same_no i j h) refl

none_is : (d : ℕ) (l : List ℕ) (i e : ℕ) → (In i l → ⊥) → looked_up d l i e ≡ e
none_is d [] i e h = refl
none_is d (j ∷ l) i e h = later_is d j l i e (λ s. h (inl s)) ∙ none_is (suc j) l i e (λ m. h (inr m))

-- the labels of a list are looked up there
has_rights : (right : ℕ → ℕ) (e : ℕ → ℕ) (d : ℕ) (l : List ℕ) → Pairs (λ i j. i ≡ j → ⊥) l
    → ((i : ℕ) → In i l → right i ≡ looked_up d l i (e i)) → HasRights right d l
has_rights right e d [] once h = tt
has_rights right e d (j ∷ l) once h = (
  h j (inl refl) ∙ here_is d j l (e j),
  has_rights right e (suc j) l once.1
      (λ i m. h i (inr m) ∙ later_is d j l i (e i) (λ s. each_at (λ k. j ≡ k → ⊥) l i once.0 m (sym s))),
)

begins_once : (n : ℕ) (seg : ℕ → GridSegment) (lo : Bound) (status : List ℕ) (k : Step) (steps : List Step)
    → Walk n seg lo status (k ∷ steps) → Pairs (λ i j. i ≡ j → ⊥) k.begins
begins_once n seg lo status k steps w =
    distinct seg k.begins (pairs_left (IsFurtherDown seg) k.begins k.above
    (pairs_right (IsFurtherDown seg) k.below (k.begins ++ k.above)
    (walk_status n seg (Wall k.vertex.x) (after k) steps w.4).sorted))

at_vertex : (seg : ℕ → GridSegment) (lo : Bound) (v : GridPoint) (i : ℕ) → (seg i).a ≡ v → IfWall (λ c. c < v.x) lo
    → IfWall (λ c. c < (seg i).a.x) lo
at_vertex seg lo v i e l = subst (λ (u : GridPoint). IfWall (λ c. c < u.x) lo) (sym e) l

further_on : (lo : Bound) (v x : ℕ) → IfWall (λ c. c < v) lo → v < x → IfWall (λ c. c < x) lo
further_on None v x l h = tt
further_on (Wall c) v x l h = let k : c < v = l in omega (arith, k, h)

-- each step has the labels that are looked up in the steps
pub have_rights : (n : ℕ) (seg : ℕ → GridSegment) (right : ℕ → ℕ) (lo : Bound) (status : List ℕ) (steps : List Step)
    → Walk n seg lo status steps → ((i : ℕ) → IfWall (λ c. c < (seg i).a.x) lo → right i ≡ right_in steps i) → HaveRights right steps
have_rights n seg right lo status [] w h = tt
have_rights n seg right lo status (k ∷ steps) w h = (
  has_rights right (right_in steps) (label_over 0 k.below) k.begins (begins_once n seg lo status k steps w)
      (λ i m. h i (at_vertex seg lo k.vertex i (each_at (λ j. (seg j).a ≡ k.vertex) k.begins i w.1.begins m) w.2)),
  have_rights n seg right (Wall k.vertex.x) (after k) steps w.4
      (λ i l. h i (further_on lo k.vertex.x (seg i).a.x w.2 l)
      ∙ none_is (label_over 0 k.below) k.begins i (right_in steps i) (λ m. not_here i l
      (ap (λ (u : GridPoint). u.x) (each_at (λ j. (seg j).a ≡ k.vertex) k.begins i w.1.begins m)))),
)
  where
    not_here : (i : ℕ) → k.vertex.x < (seg i).a.x → (seg i).a.x ≡ k.vertex.x → ⊥
    not_here i l e = omega (arith, l, e)

-- ---- labels are 0 or those over segments
abbrev pub IsLabel : ℕ → ℕ → Type 0
IsLabel n y = (y ≡ 0) ⊎ ((i : ℕ) × (i < n) × (y ≡ suc i))

over_is_label : (n d : ℕ) (l : List ℕ) → IsLabel n d → Each (λ i. i < n) l → IsLabel n (label_over d l)
over_is_label n d [] h b = h
over_is_label n d (i ∷ l) h b = over_is_label n (suc i) l (inr (i, b.0, refl)) b.1

looked_is_label : (n d : ℕ) (l : List ℕ) (i e : ℕ) → IsLabel n d → Each (λ i. i < n) l → IsLabel n e → IsLabel n (looked_up d l i e)
looked_is_label n d [] i e h b g = g
looked_is_label n d (j ∷ l) i e h b g = one_of (i == j) d (looked_up (suc j) l i e) h
    (looked_is_label n (suc j) l i e (inr (j, b.0, refl)) b.1 g)
  where
    one_of : (c : Bool) (x y : ℕ) → IsLabel n x → IsLabel n y → IsLabel n (if c then x else y)
    one_of true x y h k = h
    one_of false x y h k = k

pub right_is_label : (n : ℕ) (seg : ℕ → GridSegment) (lo : Bound) (status : List ℕ) (steps : List Step) (i : ℕ)
    → Walk n seg lo status steps → IsLabel n (right_in steps i)
right_is_label n seg lo status [] i w = inl refl
right_is_label n seg lo status (k ∷ steps) i w =
    let b = step_numbers n seg lo status k steps w in
    looked_is_label n (label_over 0 k.below) k.begins i (right_in steps i) (over_is_label n 0 k.below (inl refl) b.below) b.begins
    (right_is_label n seg (Wall k.vertex.x) (after k) steps i w.4)

pub link_is_label : (n : ℕ) (seg : ℕ → GridSegment) (lo : Bound) (status : List ℕ) (steps : List Step) (l : ℕ × ℕ)
    → Walk n seg lo status steps → Contains (links steps) l → IsLabel n l.0 × IsLabel n l.1
link_is_label n seg lo status [] l w m = absurd (Contains-nil l m)
link_is_label n seg lo status (k ∷ steps) l w m = elim (Contains-cases (link k) (links steps) l m) [
  | inl e ↦
      let b = step_numbers n seg lo status k steps w in
      subst (λ (y : ℕ × ℕ). IsLabel n y.0 × IsLabel n y.1) e (
        over_is_label n 0 (k.below ++ k.ends) (inl refl) (each_joined (λ i. i < n) k.below k.ends b.below b.ends),
        over_is_label n 0 (k.below ++ k.begins) (inl refl) (each_joined (λ i. i < n) k.below k.begins b.below b.begins),
      )
  | inr r ↦ link_is_label n seg (Wall k.vertex.x) (after k) steps l w.4 r
]
