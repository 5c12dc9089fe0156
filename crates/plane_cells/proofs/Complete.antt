-- This file shows that places that touch one cell have linked labels.
use Rattle.std.proofs.Common.{◌≡◌, ℕ, ◌*◌, ◌<◌, List, [], ◌∷◌, ◌++◌, ℤ, pos, ◌<ℤ◌, ◌≤ℤ◌, refl, sym, ap, subst, ◌∙◌, arith, inl, inr}
use Rattle.std.proofs.lemmas.Int.{ints}
use Rattle.grid_base.specs.Point.{GridPoint}
use Rattle.grid_base.specs.Segment.{GridSegment}
use Rattle.grid_base.proofs.Turns.{times_le}
use Rattle.grid_base.specs.Plane.{Place, IsFreeWay}
use Rattle.grid_base.proofs.Signs.{not_both}
use Rattle.plane_classes.specs.Classes.{IsWall, TouchOneCell}
use Rattle.plane_classes.proofs.Ways.{first_is_free, way_last}
use Rattle.plane_classes.proofs.Blends.{blend_one, blend_turned}
use Rattle.plane_classes.proofs.ClassLemmas.{touch_back}
use Rattle.plane_classes.proofs.OverTests.{Less, Same, More, three, le_of}
use Rattle.plane_cells.specs.Steps.{Step, before, after, Each, link, links}
use Rattle.linked_parts.specs.Parts.{AreLinked}
use Rattle.plane_cells.proofs.Lists.{each_map, each_left, each_right}
use Rattle.linked_parts.proofs.LinkedNumbers.{linked_both, linked_back}
use Rattle.plane_cells.proofs.Links.{linked_same, linked_later}
use Rattle.plane_cells.proofs.Labels.{label_at}
use Rattle.plane_cells.proofs.Labels.{label_alike}
use Rattle.plane_cells.proofs.Walks.{Position, Bound, None, Wall, IfWall, IsFrom, IsAcross, IsStatus, IsStep, Walk, HasLabel}
use Rattle.plane_cells.proofs.AtVertices.{reach_from, alike_in_slab, AreNumbers, crossed}

-- ---- along the walk
abbrev pub first_wall : List Step → Bound
first_wall [] = None
first_wall (k ∷ steps) = Wall k.vertex.x

pub walk_status : (n : ℕ) (seg : ℕ → GridSegment) (lo : Bound) (status : List ℕ) (steps : List Step) → Walk n seg lo status steps
    → IsStatus n seg lo (first_wall steps) status
walk_status n seg lo status [] w = w
walk_status n seg lo status (k ∷ steps) w = w.3

each_number : (n : ℕ) (seg : ℕ → GridSegment) (lo hi : Bound) (A : List ℕ) → Each (IsAcross n seg lo hi) A → Each (λ i. i < n) A
each_number n seg lo hi A h = each_map (IsAcross n seg lo hi) (λ i. i < n) A (λ i a. a.number) h

pub step_numbers : (n : ℕ) (seg : ℕ → GridSegment) (lo : Bound) (status : List ℕ) (k : Step) (steps : List Step)
    → Walk n seg lo status (k ∷ steps) → AreNumbers n k
step_numbers n seg lo status k steps w =
    let b = each_number n seg lo (Wall k.vertex.x) (before k) (subst (Each (IsAcross n seg lo (Wall k.vertex.x))) w.0 w.3.across) in
    let a = each_number n seg (Wall k.vertex.x) (first_wall steps) (after k)
    (walk_status n seg (Wall k.vertex.x) (after k) steps w.4).across in
    record {
      below = each_left (λ i. i < n) k.below (k.ends ++ k.above) b;
      ends = each_left (λ i. i < n) k.ends k.above (each_right (λ i. i < n) k.below (k.ends ++ k.above) b);
      begins = each_left (λ i. i < n) k.begins k.above (each_right (λ i. i < n) k.below (k.begins ++ k.above) a);
      above = each_right (λ i. i < n) k.ends k.above (each_right (λ i. i < n) k.below (k.ends ++ k.above) b);
    }

-- a place in the column of the wall has the label of the slab behind it
pub label_behind : (n : ℕ) (seg : ℕ → GridSegment) (v : ℕ) (status : List ℕ) (steps : List Step) (q : Place)
    → Walk n seg (Wall v) status steps → q.x ≡ pos (v * q.w) → HasLabel seg status steps q (label_at seg q 0 status)
label_behind n seg v status [] q w c = refl
label_behind n seg v status (k ∷ steps) q w c = inl
    (let t = times_le v k.vertex.x 0 q.w (omega (arith, w.2)) (omega arith) in omega (arith, ints, c), refl)

pub wall_of_step : (B : List GridSegment) (n : ℕ) (seg : ℕ → GridSegment) (k : Step) → Position B n seg → IsStep n seg k
    → IsWall B k.vertex.x
wall_of_step B n seg k P s = (
  seg s.vertex.0,
  P.listed s.vertex.0 s.vertex.1,
  elim s.vertex.2
      [ inl e ↦ inl (ap (λ (p : GridPoint). p.x) e) | inr e ↦ inr (ap (λ (p : GridPoint). p.x) e) ],
)

pub from_wall : (lo : Bound) (v : ℕ) (q : Place) → IfWall (λ c. c < v) lo → pos (v * q.w) ≤ℤ q.x → IsFrom lo q
from_wall None v q h k = tt
from_wall (Wall c) v q h k = reach_from c v q.w q.x (omega (arith, h)) k

pub touch_end : (B : List GridSegment) (p q : Place) → TouchOneCell B p q → TouchOneCell B q q
touch_end B p q h = record {
  no_wall_between = λ e w b. elim b [ inl t ↦ no_self _ _ t.0 t.1 | inr t ↦ no_self _ _ t.0 t.1 ];
  no_segment_between = subst (λ (r : Place). IsFreeWay B r q) (blend_turned 0 1 p q ∙ blend_one q p)
      (way_last B p q 0 1 (omega arith) h.no_segment_between);
}
  where
    no_self : (x y : ℤ) → x <ℤ y → y <ℤ x → ⊥
    no_self x y h k = omega (arith, ints)

-- what is shown for the steps behind
abbrev Touched : List GridSegment → ℕ → (ℕ → GridSegment) → Bound → List ℕ → List Step → Type 0
Touched B n seg lo status steps = (p q : Place) (y z : ℕ) → TouchOneCell B p q → IsFrom lo p → IsFrom lo q → HasLabel seg status steps p y
    → HasLabel seg status steps q z → AreLinked (links steps) y z

-- both in the slab before the step
here : (B : List GridSegment) (n : ℕ) (seg : ℕ → GridSegment) (lo : Bound) (status : List ℕ) (k : Step) (steps : List Step) (p q : Place)
    → Position B n seg → Walk n seg lo status (k ∷ steps) → TouchOneCell B p q
    → IsFrom lo p → p.x ≤ℤ pos (k.vertex.x * p.w) → IsFrom lo q → q.x ≤ℤ pos (k.vertex.x * q.w)
    → label_at seg p 0 status ≡ label_at seg q 0 status
here B n seg lo status k steps p q P w t fp tp fq tq = label_alike seg p q 0 status
    (alike_in_slab B n seg lo (Wall k.vertex.x) status p q P w.3.across t.no_segment_between fp tp fq tq)

-- from the column of the vertex on
onward : (B : List GridSegment) (n : ℕ) (seg : ℕ → GridSegment) (lo : Bound) (status : List ℕ) (k : Step) (steps : List Step) (p q :
    Place) (z : ℕ) → Position B n seg → Walk n seg lo status (k ∷ steps) → Touched B n seg (Wall k.vertex.x) (after k) steps
    → TouchOneCell B p q
    → p.x ≡ pos (k.vertex.x * p.w) → pos (k.vertex.x * q.w) ≤ℤ q.x → HasLabel seg (after k) steps q z
    → AreLinked (link k ∷ links steps) (label_at seg p 0 status) z
onward B n seg lo status k steps p q z P w rest t c g h =
    linked_both (link k ∷ links steps) (label_at seg p 0 status) (label_at seg p 0 (after k)) z
    (linked_both (link k ∷ links steps) (label_at seg p 0 status) (label_at seg p 0 (before k)) (label_at seg p 0 (after k))
    (linked_same (link k ∷ links steps) _ _ (ap (λ (l : List ℕ). label_at seg p 0 l) w.0))
    (crossed B n seg k (links steps) p P w.1 (step_numbers n seg lo status k steps w) (first_is_free B p q t.no_segment_between) c))
    (linked_later (link k) (links steps) (label_at seg p 0 (after k)) z
    (rest p q (label_at seg p 0 (after k)) z t (le_of _ _ (sym c)) g (label_behind n seg k.vertex.x (after k) steps p w.4 c) h))

-- p in the slab before the step, q behind it
parted : (B : List GridSegment) (n : ℕ) (seg : ℕ → GridSegment) (lo : Bound) (status : List ℕ) (k : Step) (steps : List Step) (p q :
    Place) (y z : ℕ) → Position B n seg → Walk n seg lo status (k ∷ steps) → Touched B n seg (Wall k.vertex.x) (after k) steps
    → TouchOneCell B p q
    → IsFrom lo p → IsFrom lo q → p.x ≤ℤ pos (k.vertex.x * p.w) → label_at seg p 0 status ≡ y → pos (k.vertex.x * q.w) ≤ℤ q.x
    → HasLabel seg (after k) steps q z → AreLinked (link k ∷ links steps) y z
parted B n seg lo status k steps p q y z P w rest t fp fq tp e g h = elim (three p.x (pos (k.vertex.x * p.w))) [
  | Less l ↦ elim (three q.x (pos (k.vertex.x * q.w))) [
    | Less m ↦ absurd (not_both _ _ m g)
    | Same m ↦ linked_both (link k ∷ links steps) y (label_at seg q 0 status) z
        (linked_same (link k ∷ links steps) _ _ (sym e ∙ here B n seg lo status k steps p q P w t fp tp fq (le_of _ _ m)))
        (onward B n seg lo status k steps q q z P w rest (touch_end B p q t) m g h)
    | More m ↦ absurd (t.no_wall_between k.vertex.x (wall_of_step B n seg k P w.1) (inl (l, m)))
  ]
  | Same l ↦ subst (λ (x : ℕ). AreLinked (link k ∷ links steps) x z) e (onward B n seg lo status k steps p q z P w rest t l g h)
  | More l ↦ absurd (not_both _ _ l tp)
]

-- places that touch one cell have linked labels
pub touched : (B : List GridSegment) (n : ℕ) (seg : ℕ → GridSegment) → Position B n seg → (lo : Bound) (status : List ℕ) (steps : List Step)
    → Walk n seg lo status steps → Touched B n seg lo status steps
touched B n seg P lo status [] w p q y z t fp fq h k =
    linked_same [] y z (sym h ∙ label_alike seg p q 0 status
    (alike_in_slab B n seg lo None status p q P w.across t.no_segment_between fp tt fq tt) ∙ k)
touched B n seg P lo status (k ∷ steps) w p q y z t fp fq (inl g) (inl h) = linked_same (links (k ∷ steps)) y z
    (sym g.1 ∙ here B n seg lo status k steps p q P w t fp g.0 fq h.0 ∙ h.1)
touched B n seg P lo status (k ∷ steps) w p q y z t fp fq (inl g) (inr h) =
    parted B n seg lo status k steps p q y z P w (touched B n seg P (Wall k.vertex.x) (after k) steps w.4) t fp fq g.0 g.1 h.0 h.1
touched B n seg P lo status (k ∷ steps) w p q y z t fp fq (inr g) (inl h) =
    linked_back (links (k ∷ steps)) z y
    (parted B n seg lo status k steps q p z y P w (touched B n seg P (Wall k.vertex.x) (after k) steps w.4)
    (touch_back B p q t) fq fp h.0 h.1 g.0 g.1)
touched B n seg P lo status (k ∷ steps) w p q y z t fp fq (inr g) (inr h) =
    linked_later (link k) (links steps) y z (touched B n seg P (Wall k.vertex.x) (after k) steps w.4 p q y z t g.0 h.0 g.1 h.1)
