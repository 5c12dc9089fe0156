-- This file shows that the least linked labels number the classes of sides.
use Rattle.std.proofs.Common.{◌≡◌, ◌↔◌, ℕ, suc, ◌+◌, ◌<◌, ◌≤◌, List, length, slice_index}
use Rattle.std.proofs.Common.{refl, sym, ap, subst, ◌∙◌, arith}
use Rattle.grid_base.specs.Grid.{grid_side}
use Rattle.grid_base.specs.Segment.{GridSegment}
use Rattle.grid_base.specs.Sides.{Side, Left, On, Right}
use Rattle.grid_base.specs.Plane.{Place}
use Rattle.plane_classes.specs.Classes.{AreInOneClass, IsOuter}
use Rattle.linked_parts.specs.Parts.{Links, AreLinked, AreLabels}
use Rattle.linked_parts.proofs.LinkedNumbers.{linked_here}
use Rattle.plane_cells.specs.Steps.{links}
use Rattle.plane_cells.specs.Sheared.{AreOfRealm}
use Rattle.plane_cells.specs.Swept.{IsDone}
use Rattle.plane_cells.specs.OtherNumbers.{HasNumber, HasNumbers}
use Rattle.plane_cells.specs.ClassNumbers.{number_on, LiesBeside, AreClassNumbers}
use Rattle.plane_cells.specs.declared.classes.SideClasses.{SideClasses}
use Rattle.plane_cells.proofs.Sided.{slanted_of}
use Rattle.plane_cells.proofs.ShearedRealm.{realm_below}
use Rattle.plane_cells.proofs.EachSide.{each_side}
use Rattle.plane_cells.proofs.EveryClass.{every_class}
use Rattle.plane_cells.proofs.ShearedSides.{IsRealmSweep, one_class_by_labels, labels_by_class, outer_by_labels, labels_by_outer}
use Rattle.plane_cells.proofs.Beside.{side_label}

number_is : (labels right : List ℕ) (i : ℕ) (n : SideClasses) (d : Side) → HasNumber labels right i n
    → number_on n d ≡ slice_index labels (side_label (λ j. slice_index right j) i d)
number_is labels right i n Left h = let f : i + 1 ≡ suc i = omega arith in h.over ∙ ap (λ (x : ℕ). slice_index labels x) f
number_is labels right i n On h = let f : i + 1 ≡ suc i = omega arith in h.over ∙ ap (λ (x : ℕ). slice_index labels x) f
number_is labels right i n Right h = h.under

-- ---- labels of sides are within bounds
label_below : (n : ℕ) (right : ℕ → ℕ) (i : ℕ) (d : Side) → i < n → right i ≤ n → side_label right i d ≤ n
label_below n right i Left h k = omega (arith, h)
label_below n right i On h k = omega (arith, h)
label_below n right i Right h k = omega (arith, k)

pub sweep_of : (B : List GridSegment) (L : Links) (right : List ℕ) → AreOfRealm B
    → (T : List GridSegment) (Y : List ℕ) (s : IsDone B L right T Y) → IsRealmSweep grid_side B s.steps (λ i. slice_index right i)
sweep_of B L right r T Y s = record { realm = realm_below B r; walk = s.walk; rights = s.rights }

-- 0 is the least of its part
pub least_0 : (n : ℕ) (L : Links) (labels : List ℕ) → AreLabels (n + 1) L labels → slice_index labels 0 ≡ 0
least_0 n L labels a = let b = a.least 0 0 (omega arith) (omega arith) (linked_here L 0) in omega (arith, b)

-- what labels are linked with in the sweep
pub record AreLinkedLabels (n : ℕ) (L : Links) (labels : List ℕ) : Type 0 where
  pub linked : (x y : ℕ) → x ≤ n → y ≤ n → slice_index labels x ≡ slice_index labels y → AreLinked L x y
  pub same : (x y : ℕ) → x ≤ n → y ≤ n → AreLinked L x y → slice_index labels x ≡ slice_index labels y
  pub zero : slice_index labels 0 ≡ 0

pub linked_labels : (n : ℕ) (L M : Links) (labels : List ℕ) → L ≡ M → AreLabels (n + 1) L labels → AreLinkedLabels n M labels
linked_labels n L M labels e a = subst (λ (K : Links). AreLinkedLabels n K labels) e (record {
  linked = λ x y hx hy. (a.one_part x y (omega (arith, hx)) (omega (arith, hy))).0;
  same = λ x y hx hy. (a.one_part x y (omega (arith, hx)) (omega (arith, hy))).1;
  zero = least_0 n L labels a;
})

-- ---- the labels of sides
-- the sweep of a realm, with the least labels of its links
pub record IsLabelled (B : List GridSegment) (L : Links) (right labels : List ℕ) (T : List GridSegment) (Y : List ℕ) : Type 0 where
  pub realm : AreOfRealm B
  pub done : IsDone B L right T Y
  pub least : AreLabels (length B + 1) L labels

-- the least label of the side d of segment i
abbrev pub least_at : List ℕ → List ℕ → ℕ → Side → ℕ
least_at labels right i d = slice_index labels (side_label (λ j. slice_index right j) i d)

below : (B : List GridSegment) (L : Links) (right : List ℕ) (T : List GridSegment) (Y : List ℕ) (i : ℕ) (d : Side) → IsDone B L right T Y
    → i < length B → side_label (λ j. slice_index right j) i d ≤ length B
below B L right T Y i d s hi = label_below (length B) (λ j. slice_index right j) i d hi (s.bounded i)

pub one_class_at : (B : List GridSegment) (L : Links) (right labels : List ℕ) (T : List GridSegment) (Y : List ℕ) (i j : ℕ) (d e : Side) (p
    q : Place)
    → IsLabelled B L right labels T Y → LiesBeside B i d p → LiesBeside B j e q
    → (least_at labels right i d ≡ least_at labels right j e) ↔ AreInOneClass B p q
one_class_at B L right labels T Y i j d e p q h b c =
    let s = h.done in
    let w = sweep_of B L right h.realm T Y s in
    let k = linked_labels (length B) L (links s.steps) labels s.links h.least in
    let x = side_label (λ m. slice_index right m) i d in
    let y = side_label (λ m. slice_index right m) j e in
    let x_below = below B L right T Y i d s b.within in
    let y_below = below B L right T Y j e s c.within in (
      (λ same. one_class_by_labels grid_side B s.steps (λ m. slice_index right m) i j d e p q w b.within c.within
          (slanted_of d b.sided) (slanted_of e c.sided) b.beside c.beside (k.linked x y x_below y_below same)),
      λ one. k.same x y x_below y_below (labels_by_class grid_side B s.steps (λ m. slice_index right m) i j d e p q w b.within c.within
          (slanted_of d b.sided) (slanted_of e c.sided) b.beside c.beside one),
    )

pub outer_at : (B : List GridSegment) (L : Links) (right labels : List ℕ) (T : List GridSegment) (Y : List ℕ) (i : ℕ) (d : Side) (p : Place)
    → IsLabelled B L right labels T Y → LiesBeside B i d p → (least_at labels right i d ≡ 0) ↔ IsOuter B p
outer_at B L right labels T Y i d p h b =
    let s = h.done in
    let w = sweep_of B L right h.realm T Y s in
    let k = linked_labels (length B) L (links s.steps) labels s.links h.least in
    let x = side_label (λ m. slice_index right m) i d in
    let x_below = below B L right T Y i d s b.within in (
      (λ same. outer_by_labels grid_side B s.steps (λ m. slice_index right m) i d p w b.within (slanted_of d b.sided) b.beside
          (k.linked x 0 x_below (omega arith) (same ∙ sym k.zero))),
      λ outer. k.same x 0 x_below (omega arith)
          (labels_by_outer grid_side B s.steps (λ m. slice_index right m) i d p w b.within (slanted_of d b.sided) b.beside outer) ∙ k.zero,
    )

pub some_at : (B : List GridSegment) (i : ℕ) (d : Side) → AreOfRealm B → i < length B → (d ≡ On → ⊥) → (q : Place) × LiesBeside B i d q
some_at B i d r hi sided =
    let q = each_side B i d r hi (slanted_of d sided) in (q.0, record { within = hi; sided = sided; beside = q.1 })

-- ---- the numbers
both_same : (a b x y : ℕ) (P : Type 0) → a ≡ x → b ≡ y → (x ≡ y) ↔ P → (a ≡ b) ↔ P
both_same a b x y P e f h = ((λ g. h.0 (sym e ∙ g ∙ f)), λ p. e ∙ h.1 p ∙ sym f)

pub class_numbers : (B : List GridSegment) (L : Links) (right labels : List ℕ) (numbers : List SideClasses) (T : List GridSegment) (Y : List
    ℕ)
    → IsLabelled B L right labels T Y → HasNumbers labels right numbers → AreClassNumbers B numbers
class_numbers B L right labels numbers T Y h n = record {
  one_each = n.one_each ∙ h.done.places;
  some = λ i d hi sided. some_at B i d h.realm hi sided;
  one_class = λ i j d e p q b c.
      both_same _ _ _ _ (AreInOneClass B p q) (number_is labels right i _ d (n.each i (short b.within)))
      (number_is labels right j _ e (n.each j (short c.within)))
      (one_class_at B L right labels T Y i j d e p q h b c);
  outer = λ i d q b.
      both_same _ _ _ _ (IsOuter B q) (number_is labels right i _ d (n.each i (short b.within))) refl
      (outer_at B L right labels T Y i d q h b);
  each_class = λ q free. every_class B h.done.steps (λ i. slice_index right i) q h.realm
      (sweep_of B L right h.realm T Y h.done) free;
}
  where
    short : {i : ℕ} → i < length B → i < length right
    short lt = omega (arith, lt, h.done.places)
