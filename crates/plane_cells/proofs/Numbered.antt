-- This file shows that two sides of segments are in one class exactly where their labels are linked.
use Rattle.std.proofs.Common.{◌≡◌, ℕ, ◌*◌, ◌<◌, ◌≤◌, List, [], ◌∷◌, ℤ, pos, ◌<ℤ◌, ◌≤ℤ◌, refl, sym, ap, subst, ◌∙◌, arith, inl, inr}
use Rattle.std.proofs.lemmas.Int.{ints}
use Rattle.grid_base.specs.Point.{GridPoint}
use Rattle.grid_base.specs.Segment.{GridSegment}
use Rattle.grid_base.specs.Sides.{Side, On}
use Rattle.grid_base.proofs.Turns.{times_le}
use Rattle.grid_base.proofs.Signs.{order, left_off, right_off}
use Rattle.grid_base.specs.Plane.{Place, IsFree, IsBeside}
use Rattle.plane_classes.specs.Classes.{TouchOneCell, Joins, AreInOneClass, IsLeftOfAll, IsOuter}
use Rattle.plane_cells.proofs.Sided.{IsSlanted}
use Rattle.plane_classes.proofs.Blends.{blend_one}
use Rattle.plane_classes.proofs.ClassLemmas.{touch_back, one_class_joined, one_class_back, kept_in_class}
use Rattle.plane_classes.proofs.Cuts.{walls_of, wall_listed}
use Rattle.plane_classes.proofs.BesideSegment.{nearer}
use Rattle.plane_classes.proofs.Outer.{outside, outside_is_left, left_is_free, outer_goes_on}
use Rattle.plane_cells.specs.Steps.{Step, after, link, links, HaveRights}
use Rattle.linked_parts.specs.Parts.{Links, IsLink, AreLinked}
use Rattle.plane_cells.proofs.Links.{link_here, link_later}
use Rattle.linked_parts.proofs.LinkedNumbers.{linked_by, linked_both, linked_back}
use Rattle.plane_cells.proofs.Labels.{label_at}
use Rattle.plane_cells.proofs.Walks.{Position, None, Walk, HasLabel}
use Rattle.plane_cells.proofs.Complete.{touched, touch_end}
use Rattle.plane_cells.proofs.InSlabs.{AreWithin}
use Rattle.plane_cells.proofs.Sound.{sound}
use Rattle.plane_cells.proofs.Beside.{IsNear, AreAmong, labelled, side_label}

-- all of it: the segments, none vertical, and the steps from the empty status
pub record IsSweep (B : List GridSegment) (n : ℕ) (seg : ℕ → GridSegment) (D : ℕ) (steps : List Step) (right : ℕ → ℕ) : Type 0 where
  pub position : Position B n seg
  pub within : AreWithin n seg D
  pub some : 0 < D
  pub walk : Walk n seg None [] steps
  pub rights : HaveRights right steps

-- ---- a place in the class of one beside segment i, with a label that is linked with that of the side
pub record IsSideLabel (B : List GridSegment) (seg : ℕ → GridSegment) (steps : List Step) (right : ℕ → ℕ) (i : ℕ) (d : Side)
    (p : Place) : Type 0 where
  pub place : Place
  pub free : IsFree B place
  pub class : AreInOneClass B p place
  pub label : ℕ
  pub has : HasLabel seg [] steps place label
  pub fits : AreLinked (links steps) (side_label right i d) label

pub all_among : (steps : List Step) (L : Links) → ((y z : ℕ) → IsLink (links steps) y z → IsLink L y z) → AreAmong steps L
all_among [] L h = tt
all_among (k ∷ steps) L h = (
  linked_by L (link k).0 (link k).1 (h (link k).0 (link k).1 (link_here (link k) (links steps))),
  all_among steps L
      (λ y z m. h y z (link_later (link k) (links steps) y z m)),
)

not_on : (d : Side) → IsSlanted d → d ≡ On → ⊥
not_on d (inl e) f = left_off (sym e ∙ f)
not_on d (inr e) f = right_off (sym e ∙ f)

pub side_place : (B : List GridSegment) (n : ℕ) (seg : ℕ → GridSegment) (D : ℕ) (steps : List Step) (right : ℕ
    → ℕ) (i : ℕ) (d : Side) (p : Place) → IsSweep B n seg D steps right → i < n → IsSlanted d → IsBeside B (seg i) d p
    → IsSideLabel B seg steps right i d p
side_place B n seg D steps right i d p s hn slanted h =
    let q = nearer B (seg i) d (walls_of B) p h.goal h.inside.held h.clear h.side in
    let near : IsNear B seg i d q.0 h.goal = record {
      inside = h.inside;
      real = h.inside.held.real;
      clear = q.1.clear;
      side = q.1.side;
      no_wall = λ e w b. q.1.no_wall e (wall_listed B e w) b;
    } in
    let l = labelled B n seg (links steps) right i d q.0 h.goal s.position hn near (not_on d slanted) None [] steps s.walk
    (all_among steps (links steps) (λ y z m. m)) s.rights tt tt tt in
    record {
      place = q.0;
      free = subst (IsFree B) (blend_one q.0 h.goal) (q.1.clear 1 0 (omega arith));
      class = q.1.class;
      label = l.label;
      has = l.has;
      fits = l.fits;
    }

-- ---- each place has a label
pub some_label : (seg : ℕ → GridSegment) (status : List ℕ) (steps : List Step) (q : Place) → (y : ℕ) × HasLabel seg status steps q y
some_label seg status [] q = (label_at seg q 0 status, refl)
some_label seg status (k ∷ steps) q = elim (order q.x (pos (k.vertex.x * q.w))) [
  | inl h ↦ (label_at seg q 0 status, inl (h, refl))
  | inr h ↦ let r = some_label seg (after k) steps q in (r.0, inr (weaker _ _ h, r.1))
]
  where
    weaker : (x y : ℤ) → x <ℤ y → x ≤ℤ y
    weaker x y h = omega (arith, ints, h)

-- all labels of q are linked with y
abbrev AllLinked : (ℕ → GridSegment) → List Step → ℕ → Place → Type 0
AllLinked seg steps y q = (z : ℕ) → HasLabel seg [] steps q z → AreLinked (links steps) y z

touch_first : (B : List GridSegment) (p q : Place) (c : List Place) → Joins B p c q → TouchOneCell B p p
touch_first B p q [] h = touch_end B q p (touch_back B p q h)
touch_first B p q (r ∷ c) h = touch_end B r p (touch_back B p r h.0)

pub linked_in_class : (B : List GridSegment) (n : ℕ) (seg : ℕ → GridSegment) (D : ℕ) (steps : List Step) (right : ℕ
    → ℕ) (p q : Place) (y z : ℕ) → IsSweep B n seg D steps right → AreInOneClass B p q
    → HasLabel seg [] steps p y → HasLabel seg [] steps q z → AreLinked (links steps) y z
linked_in_class B n seg D steps right p q y z s h k l =
    kept_in_class B (AllLinked seg steps y)
    (λ a b t all e g. let f = some_label seg [] steps a in
    linked_both (links steps) y f.0 e (all f.0 f.1) (touched B n seg s.position None [] steps s.walk a b f.0 e t tt tt f.1 g))
    p q h.0 h.1 (λ e g. touched B n seg s.position None [] steps s.walk p p y e (touch_first B p q h.0 h.1) tt tt k g) z l

pub class_of_linked : (B : List GridSegment) (n : ℕ) (seg : ℕ → GridSegment) (D : ℕ) (steps : List Step) (right : ℕ
    → ℕ) (p q : Place) (y z : ℕ) → IsSweep B n seg D steps right → IsFree B p → IsFree B q
    → HasLabel seg [] steps p y → HasLabel seg [] steps q z → AreLinked (links steps) y z → AreInOneClass B p q
class_of_linked B n seg D steps right p q y z s f g h k l = sound B n seg D None [] steps p q y z l.0 s.position s.within s.some s.walk f g
    tt tt h l.1 k

-- ---- two sides
pub sides_of_one_class : (B : List GridSegment) (n : ℕ) (seg : ℕ → GridSegment) (D : ℕ) (steps : List Step) (right : ℕ
    → ℕ) (i j : ℕ) (d e : Side) (p q : Place) → IsSweep B n seg D steps right → i < n → j < n → IsSlanted d → IsSlanted e
    → IsBeside B (seg i) d p → IsBeside B (seg j) e q → AreLinked (links steps) (side_label right i d) (side_label right j e)
    → AreInOneClass B p q
sides_of_one_class B n seg D steps right i j d e p q s hi hj di ej h k l =
    let a = side_place B n seg D steps right i d p s hi di h in
    let b = side_place B n seg D steps right j e q s hj ej k in
    one_class_joined B p a.place q a.class (one_class_joined B a.place b.place q
    (class_of_linked B n seg D steps right a.place b.place a.label b.label s a.free b.free a.has b.has
    (linked_both (links steps) a.label (side_label right i d) b.label (linked_back (links steps) (side_label right i d) a.label a.fits)
    (linked_both (links steps) (side_label right i d) (side_label right j e) b.label l b.fits)))
    (one_class_back B q b.place b.class))

pub labels_of_sides : (B : List GridSegment) (n : ℕ) (seg : ℕ → GridSegment) (D : ℕ) (steps : List Step) (right : ℕ
    → ℕ) (i j : ℕ) (d e : Side) (p q : Place) → IsSweep B n seg D steps right → i < n → j < n → IsSlanted d → IsSlanted e
    → IsBeside B (seg i) d p → IsBeside B (seg j) e q → AreInOneClass B p q
    → AreLinked (links steps) (side_label right i d) (side_label right j e)
labels_of_sides B n seg D steps right i j d e p q s hi hj di ej h k c =
    let a = side_place B n seg D steps right i d p s hi di h in
    let b = side_place B n seg D steps right j e q s hj ej k in
    let c' = one_class_joined B a.place p b.place (one_class_back B p a.place a.class) (one_class_joined B p q b.place c b.class) in
    linked_both (links steps) (side_label right i d) a.label (side_label right j e) a.fits
    (linked_both (links steps) a.label b.label (side_label right j e)
    (linked_in_class B n seg D steps right a.place b.place a.label b.label s c' a.has b.has)
    (linked_back (links steps) (side_label right j e) b.label b.fits))

-- ---- the outer class
grown : (a b w : ℕ) (x : ℤ) → a ≤ b → x <ℤ pos (a * w) → x ≤ℤ pos (b * w)
grown a b w x h k = let t = times_le a b 0 w h (omega arith) in omega (arith, ints, k)

pub outer_label : (B : List GridSegment) (n : ℕ) (seg : ℕ → GridSegment) (steps : List Step) (p : Place) → Position B n seg
    → Walk n seg None [] steps → IsLeftOfAll B p → HasLabel seg [] steps p 0
outer_label B n seg [] p P walk l = refl
outer_label B n seg (k ∷ steps) p P walk l =
    let v = walk.1.vertex in
    inl (
      elim v.2 [
        | inl e ↦ grown (seg v.0).a.x k.vertex.x p.w p.x (omega (arith, ap (λ (u : GridPoint). u.x) e))
            (l.left (seg v.0) (P.listed v.0 v.1))
        | inr e ↦ grown (seg v.0).a.x k.vertex.x p.w p.x (omega (arith, P.slanted v.0 v.1, ap (λ (u : GridPoint). u.x) e))
            (l.left (seg v.0) (P.listed v.0 v.1))
      ],
      refl,
    )

-- a free place is outer exactly where its label is linked with 0
pub outer_by_label : (B : List GridSegment) (n : ℕ) (seg : ℕ → GridSegment) (D : ℕ) (steps : List Step) (right : ℕ → ℕ) (p : Place) (y : ℕ)
    → IsSweep B n seg D steps right → IsFree B p → HasLabel seg [] steps p y → AreLinked (links steps) y 0 → IsOuter B p
outer_by_label B n seg D steps right p y s free has l =
    let left = outside_is_left B in (
      outside,
      left,
      class_of_linked B n seg D steps right outside p 0 y s (left_is_free B outside left) free
          (outer_label B n seg steps outside s.position s.walk left) has (linked_back (links steps) y 0 l),
    )

pub label_by_outer : (B : List GridSegment) (n : ℕ) (seg : ℕ → GridSegment) (D : ℕ) (steps : List Step) (right : ℕ → ℕ) (p : Place) (y : ℕ)
    → IsSweep B n seg D steps right → IsOuter B p → HasLabel seg [] steps p y → AreLinked (links steps) y 0
label_by_outer B n seg D steps right p y s o has =
    linked_in_class B n seg D steps right p o.0 y 0 s (one_class_back B o.0 p o.2) has (outer_label B n seg steps o.0 s.position s.walk o.1)

pub outer_side : (B : List GridSegment) (n : ℕ) (seg : ℕ → GridSegment) (D : ℕ) (steps : List Step) (right : ℕ → ℕ) (i : ℕ) (d : Side)
    (p : Place) → IsSweep B n seg D steps right → i < n → IsSlanted d
    → IsBeside B (seg i) d p → AreLinked (links steps) (side_label right i d) 0 → IsOuter B p
outer_side B n seg D steps right i d p s hi di h l =
    let a = side_place B n seg D steps right i d p s hi di h in
    outer_goes_on B a.place p
    (outer_by_label B n seg D steps right a.place a.label s a.free a.has
    (linked_both (links steps) a.label (side_label right i d) 0 (linked_back (links steps) (side_label right i d) a.label a.fits) l))
    (one_class_back B p a.place a.class)

pub label_of_outer : (B : List GridSegment) (n : ℕ) (seg : ℕ → GridSegment) (D : ℕ) (steps : List Step) (right : ℕ → ℕ) (i : ℕ) (d : Side)
    (p : Place) → IsSweep B n seg D steps right → i < n → IsSlanted d
    → IsBeside B (seg i) d p → IsOuter B p → AreLinked (links steps) (side_label right i d) 0
label_of_outer B n seg D steps right i d p s hi di h o =
    let a = side_place B n seg D steps right i d p s hi di h in
    linked_both (links steps) (side_label right i d) a.label 0 a.fits
    (label_by_outer B n seg D steps right a.place a.label s (outer_goes_on B p a.place o a.class) a.has)
