-- This file shows that places with linked labels are in one class.
use Rattle.std.proofs.Common.{◌≡◌, ℕ, suc, ◌*◌, ◌<◌, ◌≤◌, List, [], ◌∷◌, ◌++◌, pos, ◌<ℤ◌, ◌≤ℤ◌, sym, ap, subst, ◌∙◌, arith, inl, inr}
use Rattle.grid_base.specs.Segment.{GridSegment}
use Rattle.grid_base.specs.Plane.{Place, side_number_at, IsFree}
use Rattle.plane_classes.specs.Classes.{AreInOneClass}
use Rattle.plane_classes.proofs.ClassLemmas.{one_class_joined, one_class_back}
use Rattle.plane_cells.specs.Steps.{Step, before, after, In, Each, link, links}
use Rattle.linked_parts.specs.Parts.{IsLink, LeadsOver}
use Rattle.plane_cells.proofs.Lower.{at_point}
use Rattle.plane_cells.proofs.Links.{no_link, First, Back, Later, placed}
use Rattle.plane_cells.proofs.Lists.{each_at, in_left, in_right, in_cases}
use Rattle.plane_cells.proofs.Labels.{label_at}
use Rattle.plane_cells.proofs.Walks.{Position, Bound, None, Wall, IfWall, IsFrom, IsAcross, IsStatus, Walk, HasLabel}
use Rattle.plane_cells.proofs.Complete.{first_wall, walk_status, step_numbers, label_behind, from_wall}
use Rattle.plane_cells.proofs.InSlabs.{AreWithin, AreApart, IsLabelOf, Least, Over, label_of, one_in_slab}
use Rattle.plane_cells.proofs.OnWalls.{IsAtWall, IsWallPlace, over_vertex, going_on, going_below}
use Rattle.plane_classes.proofs.OverTests.{le_of}

pub wall_ahead : (n : ℕ) (seg : ℕ → GridSegment) (v : ℕ) (status : List ℕ) (steps : List Step) → Walk n seg (Wall v) status steps
    → IfWall (λ e. v < e) (first_wall steps)
wall_ahead n seg v status [] w = tt
wall_ahead n seg v status (k ∷ steps) w = w.2

pub at_wall : (n : ℕ) (seg : ℕ → GridSegment) (lo : Bound) (status : List ℕ) (k : Step) (steps : List Step)
    → Walk n seg lo status (k ∷ steps) → IsAtWall n seg lo (first_wall steps) k
at_wall n seg lo status k steps w = record {
  left = subst (IsStatus n seg lo (Wall k.vertex.x)) w.0 w.3;
  right = walk_status n seg (Wall k.vertex.x) (after k) steps w.4;
  from = w.2;
  to = wall_ahead n seg k.vertex.x (after k) steps w.4;
}

walls_apart : (lo : Bound) (v : ℕ) → IfWall (λ c. c < v) lo → AreApart lo (Wall v)
walls_apart None v h = tt
walls_apart (Wall c) v h = h

no_wall_ahead : (lo : Bound) → AreApart lo None
no_wall_ahead None = tt
no_wall_ahead (Wall c) = tt

-- ---- a label that is met later belongs to a segment that ends later
ends_behind : (n : ℕ) (seg : ℕ → GridSegment) (lo : Bound) (e : ℕ) (status : List ℕ) (q : Place) (i : ℕ)
    → Each (IsAcross n seg lo (Wall e)) status → suc i ≡ label_at seg q 0 status → e ≤ (seg i).b.x
ends_behind n seg lo e status q i a h = elim (label_of seg q status) [
  | Least g ↦ absurd (omega (arith, h, g))
  | Over j m g ↦ let f : j ≡ i = omega (arith, h, g) in subst (λ (k : ℕ). e ≤ (seg k).b.x) f
      (each_at (IsAcross n seg lo (Wall e)) status j a m).to
]

pub ends_later : (n : ℕ) (seg : ℕ → GridSegment) (c : ℕ) (status : List ℕ) (steps : List Step) (q : Place) (i : ℕ)
    → Walk n seg (Wall c) status steps → HasLabel seg status steps q (suc i) → c < (seg i).b.x
ends_later n seg c status [] q i w h = elim (label_of seg q status) [
  | Least g ↦ absurd (omega (arith, h, g))
  | Over j m g ↦ absurd ((each_at (IsAcross n seg (Wall c) None) status j w.across m).to)
]
ends_later n seg c status (k ∷ steps) q i w (inl h) = let e = ends_behind n seg (Wall c) k.vertex.x status q i w.3.across
    (sym h.1) in let f : c < k.vertex.x = w.2 in omega (arith, e, f)
ends_later n seg c status (k ∷ steps) q i w (inr h) = let e = ends_later n seg k.vertex.x (after k) steps q i w.4 h.1 in
    let f : c < k.vertex.x = w.2 in omega (arith, e, f)

-- ---- a label that is met on both sides of a vertex has a place on its wall
met_again : (B : List GridSegment) (n : ℕ) (seg : ℕ → GridSegment) (D : ℕ) (lo : Bound) (status : List ℕ) (k : Step) (steps : List
    Step) (q : Place) (i : ℕ) → Position B n seg → AreWithin n seg D → 0 < D → Walk n seg lo status (k ∷ steps)
    → In i (before k) → HasLabel seg (after k) steps q (suc i) → IsWallPlace B seg k (suc i) (suc i)
met_again B n seg D lo status k steps q i P w hD walk m h = elim (in_cases i k.below (k.ends ++ k.above) m) [
  | inl a ↦ going_on B n seg D lo (first_wall steps) k i P w hD walk.1 (at_wall n seg lo status k steps walk)
      (inl (each_at (λ j. pos 0 <ℤ side_number_at (seg j) (at_point k.vertex)) k.below i walk.1.below a)) m
      (in_left i k.below (k.begins ++ k.above) a)
  | inr b ↦ elim (in_cases i k.ends k.above b) [
    | inl e ↦ absurd (not_ended (ap (λ p. p.x) (each_at (λ j. (seg j).b ≡ k.vertex) k.ends i walk.1.ends e))
        (ends_later n seg k.vertex.x (after k) steps q i walk.4 h))
    | inr a ↦ going_on B n seg D lo (first_wall steps) k i P w hD walk.1 (at_wall n seg lo status k steps walk)
        (inr (each_at (λ j. side_number_at (seg j) (at_point k.vertex) <ℤ pos 0) k.above i walk.1.above a)) m
        (in_right i k.below (k.begins ++ k.above) (in_right i k.begins k.above a))
  ]
]
  where
    not_ended : (seg i).b.x ≡ k.vertex.x → k.vertex.x < (seg i).b.x → ⊥
    not_ended e f = omega (arith, e, f)

wall_place : (B : List GridSegment) (n : ℕ) (seg : ℕ → GridSegment) (D : ℕ) (lo : Bound) (status : List ℕ) (k : Step) (steps : List
    Step) (q : Place) (y : ℕ) → Position B n seg → AreWithin n seg D → 0 < D → Walk n seg lo status (k ∷ steps)
    → IsLabelOf status y → HasLabel seg (after k) steps q y → IsWallPlace B seg k y y
wall_place B n seg D lo status k steps q y P w hD walk (Least e) h =
    subst (λ (z : ℕ). IsWallPlace B seg k z z) (sym e)
    (going_below B n seg D lo (first_wall steps) k P w (at_wall n seg lo status k steps walk))
wall_place B n seg D lo status k steps q y P w hD walk (Over i m e) h =
    subst (λ (z : ℕ). IsWallPlace B seg k z z) (sym e)
    (met_again B n seg D lo status k steps q i P w hD walk (subst (In i) walk.0 m)
    (subst (λ (z : ℕ). HasLabel seg (after k) steps q z) e h))

-- ---- one label, one class
abbrev OneClass : List GridSegment → ℕ → (ℕ → GridSegment) → Bound → List ℕ → List Step → Type 0
OneClass B n seg lo status steps = (p q : Place) (y : ℕ) → IsFree B p → IsFree B q → IsFrom lo p → IsFrom lo q
    → HasLabel seg status steps p y → HasLabel seg status steps q y → AreInOneClass B p q

over_wall : (B : List GridSegment) (n : ℕ) (seg : ℕ → GridSegment) (D : ℕ) (lo : Bound) (status : List ℕ) (k : Step) (steps : List Step) (p
    q : Place) (y : ℕ) → Position B n seg → AreWithin n seg D → 0 < D → Walk n seg lo status (k ∷ steps) → OneClass B n seg
    (Wall k.vertex.x) (after k) steps
    → IsFree B p → IsFree B q → IsFrom lo p → p.x ≤ℤ pos (k.vertex.x * p.w) → label_at seg p 0 status ≡ y → pos (k.vertex.x * q.w) ≤ℤ q.x
    → HasLabel seg (after k) steps q y → AreInOneClass B p q
over_wall B n seg D lo status k steps p q y P w hD walk rest fp fq from to e g h =
    let r = wall_place B n seg D lo status k steps q y P w hD walk (subst (IsLabelOf status) e (label_of seg p status)) h in
    one_class_joined B p r.place q
    (one_in_slab B n seg D lo (Wall k.vertex.x) status p r.place P w hD (walls_apart lo k.vertex.x walk.2) walk.3 fp from to r.free
    (from_wall lo k.vertex.x r.place walk.2 (le_of _ _ (sym r.column))) (le_of _ _ r.column)
    (e ∙ sym (ap (λ (l : List ℕ). label_at seg r.place 0 l) walk.0 ∙ r.left)))
    (rest r.place q y r.free fq (le_of _ _ (sym r.column)) g
    (subst (HasLabel seg (after k) steps r.place) r.right (label_behind n seg k.vertex.x (after k) steps r.place walk.4 r.column)) h)

pub one_label : (B : List GridSegment) (n : ℕ) (seg : ℕ → GridSegment) (D : ℕ) → Position B n seg → AreWithin n seg D → 0 < D
    → (lo : Bound) (status : List ℕ) (steps : List Step) → Walk n seg lo status steps → OneClass B n seg lo status steps
one_label B n seg D P w hD lo status [] walk p q y fp fq from gfrom h g = one_in_slab B n seg D lo None status p q P w hD
    (no_wall_ahead lo) walk fp from tt fq gfrom tt (h ∙ sym g)
one_label B n seg D P w hD lo status (k ∷ steps) walk p q y fp fq from gfrom (inl h) (inl g) =
    one_in_slab B n seg D lo (Wall k.vertex.x) status p q P w hD (walls_apart lo k.vertex.x walk.2) walk.3 fp from h.0 fq gfrom g.0
    (h.1 ∙ sym g.1)
one_label B n seg D P w hD lo status (k ∷ steps) walk p q y fp fq from gfrom (inl h) (inr g) =
    over_wall B n seg D lo status k steps p q y P w hD walk (one_label B n seg D P w hD (Wall k.vertex.x) (after k) steps walk.4) fp fq from
    h.0 h.1 g.0 g.1
one_label B n seg D P w hD lo status (k ∷ steps) walk p q y fp fq from gfrom (inr h) (inl g) =
    one_class_back B q p (over_wall B n seg D lo status k steps q p y P w hD walk
    (one_label B n seg D P w hD (Wall k.vertex.x) (after k) steps walk.4) fq fp gfrom g.0 g.1 h.0 h.1)
one_label B n seg D P w hD lo status (k ∷ steps) walk p q y fp fq from gfrom (inr h) (inr g) =
    one_label B n seg D P w hD (Wall k.vertex.x) (after k) steps walk.4 p q y fp fq h.0 g.0 h.1 g.1

-- ---- each link has a place with both labels
pub record IsLinkPlace (B : List GridSegment) (seg : ℕ → GridSegment) (lo : Bound) (status : List ℕ) (steps : List Step)
    (y z : ℕ) : Type 0 where
  pub place : Place
  pub free : IsFree B place
  pub from : IsFrom lo place
  pub one : HasLabel seg status steps place y
  pub other : HasLabel seg status steps place z

turned : (B : List GridSegment) (seg : ℕ → GridSegment) (lo : Bound) (status : List ℕ) (steps : List Step) (y z : ℕ)
    → IsLinkPlace B seg lo status steps y z → IsLinkPlace B seg lo status steps z y
turned B seg lo status steps y z r = record { place = r.place; free = r.free; from = r.from; one = r.other; other = r.one }

first_place : (B : List GridSegment) (n : ℕ) (seg : ℕ → GridSegment) (D : ℕ) (lo : Bound) (status : List ℕ) (k : Step) (steps : List
    Step) (y z : ℕ) → Position B n seg → AreWithin n seg D → 0 < D → Walk n seg lo status (k ∷ steps)
    → y ≡ (link k).0 → z ≡ (link k).1 → IsLinkPlace B seg lo status (k ∷ steps) y z
first_place B n seg D lo status k steps y z P w hD walk e f =
    let r = over_vertex B n seg D lo (first_wall steps) k P w hD walk.1 (step_numbers n seg lo status k steps walk)
    (at_wall n seg lo status k steps walk) in
    record {
      place = r.place;
      free = r.free;
      from = from_wall lo k.vertex.x r.place walk.2 (le_of _ _ (sym r.column));
      one = inl (le_of _ _ r.column, ap (λ (l : List ℕ). label_at seg r.place 0 l) walk.0 ∙ r.left ∙ sym e);
      other = inr (
        le_of _ _ (sym r.column),
        subst (HasLabel seg (after k) steps r.place) (r.right ∙ sym f)
            (label_behind n seg k.vertex.x (after k) steps r.place walk.4 r.column),
      );
    }

pub link_place : (B : List GridSegment) (n : ℕ) (seg : ℕ → GridSegment) (D : ℕ) → Position B n seg → AreWithin n seg D → 0 < D
    → (lo : Bound) (status : List ℕ) (steps : List Step) (y z : ℕ) → Walk n seg lo status steps → IsLink (links steps) y z
    → IsLinkPlace B seg lo status steps y z
link_place B n seg D P w hD lo status [] y z walk h = absurd (no_link y z h)
link_place B n seg D P w hD lo status (k ∷ steps) y z walk h = elim (placed (link k) (links steps) y z h) [
  | First e f ↦ first_place B n seg D lo status k steps y z P w hD walk e f
  | Back e f ↦ turned B seg lo status (k ∷ steps) z y (first_place B n seg D lo status k steps z y P w hD walk e f)
  | Later m ↦
      let r = link_place B n seg D P w hD (Wall k.vertex.x) (after k) steps y z walk.4 m in
      record {
        place = r.place;
        free = r.free;
        from = from_wall lo k.vertex.x r.place walk.2 r.from;
        one = inr (r.from, r.one);
        other = inr
            (r.from, r.other);
      }
]

-- ---- linked labels, one class
pub sound : (B : List GridSegment) (n : ℕ) (seg : ℕ → GridSegment) (D : ℕ) (lo : Bound) (status : List ℕ) (steps : List Step) (p q :
    Place) (y z : ℕ) (c : List ℕ) → Position B n seg → AreWithin n seg D → 0 < D → Walk n seg lo status steps
    → IsFree B p → IsFree B q → IsFrom lo p → IsFrom lo q → HasLabel seg status steps p y → LeadsOver (links steps) y c z
    → HasLabel seg status steps q z → AreInOneClass B p q
sound B n seg D lo status steps p q y z [] P w hD walk fp fq from gfrom h l g = one_label B n seg D P w hD lo status steps walk p q y fp fq
    from gfrom h (subst (HasLabel seg status steps q) (sym l) g)
sound B n seg D lo status steps p q y z (x ∷ c) P w hD walk fp fq from gfrom h l g =
    let r = link_place B n seg D P w hD lo status steps y x walk l.0 in
    one_class_joined B p r.place q (one_label B n seg D P w hD lo status steps walk p r.place y fp r.free from r.from h r.one)
    (sound B n seg D lo status steps r.place q x z c P w hD walk r.free fq r.from gfrom r.other l.1 g)
