-- This file shows that the label of another segment tells whether it lies in the outer class.
use Rattle.std.proofs.Common.{ℕ, ◌*◌, ◌<◌, List, [], map, length, sym, subst}
use Rattle.grid_base.specs.Segment.{GridSegment}
use Rattle.grid_base.specs.Sides.{Side}
use Rattle.grid_base.specs.Point.{IsBefore}
use Rattle.grid_base.specs.Plane.{Place, Holds, HoldsInside, IsBeside}
use Rattle.plane_classes.specs.Classes.{AreInOneClass, IsOuter}
use Rattle.plane_cells.proofs.Sided.{IsSlanted}
use Rattle.plane_classes.proofs.ClassLemmas.{one_class_back}
use Rattle.plane_classes.proofs.Outer.{outer_goes_on}
use Rattle.plane_classes.specs.Shear.{sheared_place}
use Rattle.plane_classes.proofs.Unsheared.{unsheared_place}
use Rattle.plane_cells.specs.Steps.{Step, links}
use Rattle.linked_parts.specs.Parts.{AreLinked}
use Rattle.plane_classes.specs.Shear.{sheared}
use Rattle.plane_cells.specs.Numbered.{numbered}
use Rattle.plane_cells.proofs.Walks.{HasLabel}
use Rattle.plane_cells.proofs.Numbered.{outer_by_label, label_by_outer}
use Rattle.plane_cells.proofs.ShearedRealm.{IsRealmBelow, position, within}
use Rattle.plane_cells.proofs.ShearedSides.{IsRealmSweep, sweep_of, below_of, beside_sheared, free_beside, outer_sheared, outer_unsheared}
use Rattle.plane_cells.proofs.SomeBeside.{IsApart, some_beside, beside_unsheared}
use Rattle.plane_cells.proofs.Asked.{IsOther, free_inside, beside_class}

-- t isn't of B, and a place inside it has the label y in the sheared plane
pub record IsAsked (n : ℕ) (B : List GridSegment) (steps : List Step) (t : GridSegment) (y : ℕ) : Type 0 where
  pub other : IsOther (length B) (λ i. sheared n (numbered B i)) (sheared n t)
  pub place : Place
  pub inside : HoldsInside (sheared n t) place
  pub has : HasLabel (λ i. sheared n (numbered B i)) [] steps place y

to_place : (n : ℕ) (B : List GridSegment) (steps : List Step) (right : ℕ → ℕ) (t : GridSegment) (y : ℕ) (d : Side) (q : Place)
    → IsRealmSweep n B steps right → (a : IsAsked n B steps t y) → IsBefore t.a t.b → t.a.y < n → IsBeside B t d q
    → AreInOneClass (map (sheared n) B) (sheared_place n q) a.place
to_place n B steps right t y d q s a o l b =
    beside_class (map (sheared n) B) (length B) (λ i. sheared n (numbered B i)) (sheared n t) d (sheared_place n q) a.place
    (position n B s.realm) a.other (beside_sheared n B t d q s.realm.some s.realm.order o l b) a.inside

-- the places beside t are in the outer class exactly where its label is linked with 0
pub outer_by_asked : (n : ℕ) (B : List GridSegment) (steps : List Step) (right : ℕ → ℕ) (t : GridSegment) (y : ℕ) (d : Side) (q : Place)
    → IsRealmSweep n B steps right → IsAsked n B steps t y → IsBefore t.a t.b → t.a.y < n → IsBeside B t d q
    → AreLinked (links steps) y 0 → IsOuter B q
outer_by_asked n B steps right t y d q s a o l b link =
    let seg : ℕ → GridSegment = λ i. sheared n (numbered B i) in
    let free = free_inside (map (sheared n) B) (length B) seg (sheared n t) a.place (position n B s.realm) a.other a.inside in
    outer_unsheared n B q s.realm (free_beside B t d q b)
    (outer_goes_on (map (sheared n) B) a.place (sheared_place n q)
    (outer_by_label (map (sheared n) B) (length B) seg (n * n) steps right a.place y (sweep_of n B steps right s) free a.has link)
    (one_class_back (map (sheared n) B) (sheared_place n q) a.place (to_place n B steps right t y d q s a o l b)))

pub asked_by_outer : (n : ℕ) (B : List GridSegment) (steps : List Step) (right : ℕ → ℕ) (t : GridSegment) (y : ℕ) (d : Side) (q : Place)
    → IsRealmSweep n B steps right → IsAsked n B steps t y → IsBefore t.a t.b → t.a.y < n → IsBeside B t d q
    → IsOuter B q → AreLinked (links steps) y 0
asked_by_outer n B steps right t y d q s a o l b outer =
    label_by_outer (map (sheared n) B) (length B) (λ i. sheared n (numbered B i)) (n * n) steps right a.place y (sweep_of n B steps right s)
    (outer_goes_on (map (sheared n) B) (sheared_place n q) a.place (outer_sheared n B q s.realm.order s.realm.some outer)
    (to_place n B steps right t y d q s a o l b)) a.has

-- some place lies beside t
pub beside_other : (n : ℕ) (B : List GridSegment) (t : GridSegment) (d : Side) → IsRealmBelow n B
    → IsOther (length B) (λ i. sheared n (numbered B i)) (sheared n t) → IsBefore t.a t.b → t.a.y < n → IsSlanted d
    → (q : Place) × IsBeside B t d q
beside_other n B t d r h o l di =
    let P = position n B r in
    let apart : IsApart (map (sheared n) B) (n * n) (sheared n t) = record {
      slanted = h.slanted;
      all_slanted = λ u c. let k = P.all u c in subst (λ (s : GridSegment). s.a.x < s.b.x) k.2 (P.slanted k.0 k.1);
      within = λ u c. let k = P.all u c in subst (λ (s : GridSegment). s.b.x < n * n) k.2 (within n B r k.0 k.1);
      alone = λ u m c inside held. let k = P.all u c in absurd
          (h.off k.0 k.1 m inside (subst (λ (s : GridSegment). Holds s m) (sym k.2) held));
    } in
    let q = some_beside (map (sheared n) B) (n * n) (sheared n t) d apart di in
    (unsheared_place n q.0, beside_unsheared n B t d q.0 r.some r.order (below_of n B r) o l q.1)
