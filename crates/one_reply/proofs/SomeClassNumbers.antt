-- This file shows that the classes of each border on the grid have numbers: those that a sweep finds.
use Rattle.std.proofs.Common.{◌≡◌, ℕ, zero, suc, ◌+◌, ◌<◌, ◌≤◌, List, [], ◌∷◌, ◌++◌, length, slice_index, get_or, All, AllPairs}
use Rattle.std.proofs.Common.{refl, sym, ap, subst, ◌∙◌, inl, inr, arith, append_assoc}
use Rattle.std.proofs.lemmas.List.{append-nil}
use Rattle.std.proofs.lemmas.List.Elements.{All-head, All-tail}
use Rattle.grid_base.specs.Border.{AreNoded}
use Rattle.grid_base.specs.Segment.{GridSegment, IsSegmentBefore}
use Rattle.segment_lists.specs.OnGrid.{IsOnGrid}
use Rattle.linked_parts.specs.Parts.{Links, AreBelow, AreLabels}
use Rattle.linked_parts.specs.Kept.{united, AreLeasts}
use Rattle.linked_parts.proofs.LinkedNumbers.{leasts_alone, leasts_more, labels_are}
use Rattle.plane_cells.specs.ClassNumbers.{AreClassNumbers}
use Rattle.plane_cells.specs.OtherNumbers.{HasNumbers}
use Rattle.plane_cells.specs.Rims.{rims, IsInterior}
use Rattle.plane_cells.specs.Sheared.{AreOfRealm, sheared_number}
use Rattle.plane_cells.specs.Steps.{Step, after, links, Each, HasRights, HaveRights}
use Rattle.plane_cells.specs.Swept.{IsDone}
use Rattle.plane_cells.specs.Walks.{Bound, None, Wall, Walk}
use Rattle.plane_cells.specs.declared.classes.SideClasses.{SideClasses}
use Rattle.plane_cells.proofs.Complete.{step_numbers}
use Rattle.plane_cells.proofs.Numbering.{IsLabelled, class_numbers}
use Rattle.plane_cells.proofs.OfRealm.{of_realm}
use Rattle.plane_cells.proofs.ShutIn.{interior_of}
use Rattle.class_borders.proofs.EachSwept.{HasSweep, has_sweep}
use Rattle.class_borders.proofs.RightLabels.{IsLabel}
use Rattle.rose_predicates.proofs.Truths.{each}

-- ---- a list of values
-- the values of f at the first n numbers
abbrev pub table : {X : Type 0} → (ℕ → X) → ℕ → List X
table f zero = []
table f (suc n) = f 0 ∷ table (λ i. f (suc i)) n

pub table_long : {X : Type 0} (f : ℕ → X) (n : ℕ) → length (table f n) ≡ n
table_long f zero = refl
table_long f (suc n) = ap suc (table_long (λ i. f (suc i)) n)

pub table_at : {X : Type 0} (f : ℕ → X) (n i : ℕ) (d : X) → i < n → get_or (table f n) i d ≡ f i
table_at f zero i d within = absurd (omega (arith, within))
table_at f (suc n) zero d within = refl
table_at f (suc n) (suc i) d within = table_at (λ j. f (suc j)) n i d (omega (arith, within))

-- behind its end there is none
table_bounded : (f : ℕ → ℕ) (n most : ℕ) → ((i : ℕ) → f i ≤ most) → (i : ℕ) → slice_index (table f n) i ≤ most
table_bounded f zero most low zero = omega arith
table_bounded f zero most low (suc i) = omega arith
table_bounded f (suc n) most low zero = low 0
table_bounded f (suc n) most low (suc i) = table_bounded (λ j. f (suc j)) n most (λ j. low (suc j)) i

-- ---- the labels of linked numbers
more_leasts : (n : ℕ) (done rest : Links) (least : ℕ → ℕ) → AreLeasts n done least → AreBelow n rest
    → (all : ℕ → ℕ) × AreLeasts n (done ++ rest) all
more_leasts n done [] least are below = (least, subst (λ (ls : Links). AreLeasts n ls least) (sym (append-nil done)) are)
more_leasts n done ((i, j) ∷ rest) least are below =
    let (first, second) = All-head (λ (l : ℕ × ℕ). (l.0 < n) × (l.1 < n)) (i, j) rest below in
    let one = leasts_more n done (done ++ (i, j) ∷ []) least i j first second refl are in
    let (all, more) = more_leasts n (done ++ (i, j) ∷ []) rest (united least i j) one
    (All-tail (λ (l : ℕ × ℕ). (l.0 < n) × (l.1 < n)) (i, j) rest below) in
    (all, subst (λ (ls : Links). AreLeasts n ls all) (append_assoc done ((i, j) ∷ []) rest) more)

pub some_labels : (n : ℕ) (links : Links) → AreBelow n links → (labels : List ℕ) × AreLabels n links labels
some_labels n links below =
    let (least, are) = more_leasts n [] links (λ i. i) (leasts_alone n) below in
    (table least n, labels_are n links least (table least n) are (table_long least n) (λ i within. table_at least n i 0 within))

-- ---- the labels under segments
same_rights : (n : ℕ) (f g : ℕ → ℕ) → ((i : ℕ) → i < n → f i ≡ g i) → (d : ℕ) (l : List ℕ) → Each (λ i. i < n) l → HasRights f d l
    → HasRights g d l
same_rights n f g same d [] below have = tt
same_rights n f g same d (i ∷ l) below have = (
  sym (same i below.0) ∙ have.0,
  same_rights n f g same (suc i) l below.1 have.1,
)

-- functions with the same labels have the same rights
all_rights : (n : ℕ) (f g : ℕ → ℕ) → ((i : ℕ) → i < n → f i ≡ g i) → (seg : ℕ → GridSegment) (lo : Bound) (status : List ℕ)
    (steps : List Step) → Walk n seg lo status steps → HaveRights f steps → HaveRights g steps
all_rights n f g same seg lo status [] walk have = tt
all_rights n f g same seg lo status (k ∷ steps) walk have = (
  same_rights n f g same _ k.begins (step_numbers n seg lo status k steps walk).begins have.0,
  all_rights n f g same seg (Wall k.vertex.x) (after k) steps walk.4 have.1,
)

label_low : (n y : ℕ) → IsLabel n y → y ≤ n
label_low n y (inl e) = omega (arith, e)
label_low n y (inr (i, within, e)) = omega (arith, within, e)

-- ---- the sweep, as lists
module _ (B : List GridSegment) (realm : AreOfRealm B) where
  h : HasSweep B
  h = has_sweep B realm

  abbrev right : List ℕ
  right = table h.right (length B)

  low : (y : ℕ) → IsLabel (length B) y → y < length B + 1
  low y is = let most = label_low (length B) y is in omega (arith, most)

  below : AreBelow (length B + 1) (links h.steps)
  below = each (λ (l : ℕ × ℕ). (l.0 < length B + 1) × (l.1 < length B + 1)) (links h.steps)
      (λ l there. let both = h.link_labels l there in (low l.0 both.0, low l.1 both.1))

  done : IsDone B (links h.steps) right [] []
  done = record {
    steps = h.steps;
    walk = h.sweep.walk;
    links = refl;
    rights = all_rights (length B) h.right (λ i. slice_index right i)
        (λ i within. sym (table_at h.right (length B) i 0 within)) (sheared_number B) None [] h.steps h.sweep.walk h.sweep.rights;
    places = table_long h.right (length B);
    labels = below;
    bounded = table_bounded h.right (length B) (length B) (λ i. label_low (length B) (h.right i) (h.right_labels i));
    asked = λ k short. absurd (omega (arith, short));
    known = λ k. none k;
  }
    where
      none : (k : ℕ) → slice_index [] k ≤ length B
      none zero = omega arith
      none (suc k) = omega arith

  labels : (labels : List ℕ) × AreLabels (length B + 1) (links h.steps) labels
  labels = some_labels (length B + 1) (links h.steps) below

  labelled : IsLabelled B (links h.steps) right labels.0 [] []
  labelled = record { realm = realm; done = done; least = labels.1 }

  -- the labels over and under segment number i
  abbrev sides : ℕ → SideClasses
  sides i = record { left = slice_index labels.0 (i + 1); right = slice_index labels.0 (slice_index right i) }

  abbrev numbers : List SideClasses
  numbers = table sides (length B)

  have : HasNumbers labels.0 right numbers
  have = record {
    one_each = table_long sides (length B) ∙ sym (table_long h.right (length B));
    each = λ i within.
        let at = table_at sides (length B) i (record { left = 0; right = 0 })
        (subst (λ n. i < n) (table_long h.right (length B)) within) in
        record { over = ap (λ (n : SideClasses). n.left) at; under = ap (λ (n : SideClasses). n.right) at };
  }

-- numbers of the classes of a border, by which it is told which segments are the border of what it shuts in
pub record HasClassNumbers (B : List GridSegment) : Type 0 where
  pub numbers : List SideClasses
  pub are : AreClassNumbers B numbers
  pub interior : IsInterior B (rims B numbers)

pub some_numbers : (B : List GridSegment) → AreOfRealm B → HasClassNumbers B
some_numbers B realm = record {
  numbers = numbers B realm;
  are = class_numbers B (links (h B realm).steps) (right B realm) (labels B realm).0 (numbers B realm) [] [] (labelled B realm)
      (have B realm);
  interior = interior_of B (links (h B realm).steps) (right B realm) (labels B realm).0 (numbers B realm) [] [] (labelled B realm)
      (have B realm);
}

-- a border is of a realm by its order
pub border_of_realm : (B : List GridSegment) → AreNoded B → AllPairs IsSegmentBefore B → All IsOnGrid B → AreOfRealm B
border_of_realm B noded up grid = of_realm B B noded (λ s there. there) up grid
