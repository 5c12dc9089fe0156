-- This file shows that a region has one list of faces.
use Rattle.std.proofs.Common.{◌≡◌, List, [], ◌∷◌, Contains, sym, ap₂, subst, inl, inr}
use Rattle.std.proofs.lemmas.List.Elements.{All-contains}
use Rattle.grid_base.specs.Point.{GridPoint, IsBefore}
use Rattle.grid_base.specs.Segment.{GridSegment}
use Rattle.grid_base.specs.Sides.{Side}
use Rattle.grid_base.specs.Plane.{Place, blend, IsBeside}
use Rattle.grid_base.proofs.Orders.{IsBefore-asym}
use Rattle.plane_classes.specs.Classes.{AreInOneClass, IsOuter}
use Rattle.plane_classes.proofs.FewerSegments.{IsPart, free_of_part, class_of_part}
use Rattle.rose_overlay.proofs.Sorts.{one_list}
use Rattle.r_cycles.specs.Cycles.{Link, links, round}
use Rattle.r_faces.specs.Turned.{IsListBefore}
use Rattle.r_faces.specs.FaceCycles.{HasBeside, IsRim, RunsBetween, IsBorderCycle, IsEnclosed, IsBounded, IsFaceOf, AreFaces}
use Rattle.r_faces.specs.declared.face.Face.{Face}
use Rattle.one_reply.proofs.OneCycle.{HasLinksOf, one_cycle}

-- ---- fewer segments, and what lies beside them
beside_of_part : (C B : List GridSegment) (s : GridSegment) (d : Side) (q : Place) → IsPart C B → IsBeside B s d q → IsBeside C s d q
beside_of_part C B s d q part beside = record {
  side = beside.side;
  goal = beside.goal;
  inside = beside.inside;
  clear = λ i j some. free_of_part C B (blend i j q beside.goal) part (beside.clear i j some);
}

has_beside : (C B : List GridSegment) (s : GridSegment) (d : Side) (P Q : Place → Type 0) → IsPart C B → ((q : Place) → P q → Q q)
    → HasBeside B s d P → HasBeside C s d Q
has_beside C B s d P Q part weaker (q, beside, holds) = (q, beside_of_part C B s d q part beside, weaker q holds)

pub outer_of_part : (C B : List GridSegment) (q : Place) → IsPart C B → IsOuter B q → IsOuter C q
outer_of_part C B q part (p, left, one) =
    (p, record { real = left.real; left = λ s there. left.left s (part s there) }, class_of_part C B p q part one)

-- ---- two rims of one face, which have the same segments
module _ (B C : List GridSegment) (into : IsPart B C) (from : IsPart C B) (z : Place) where
  runs : (P Q : Place → Type 0) → ((q : Place) → P q → Q q) → (l : Link) → RunsBetween B z P l → RunsBetween C z Q l
  runs P Q weaker l (s, there, inl (is, of_face, beyond)) = (
    s,
    into s there,
    inl (
      is,
      has_beside C B s _ (AreInOneClass B z) (AreInOneClass C z) from (λ q. class_of_part C B z q from) of_face,
      has_beside C B s _ P Q from weaker beyond,
    ),
  )
  runs P Q weaker l (s, there, inr (is, of_face, beyond)) = (
    s,
    into s there,
    inr (
      is,
      has_beside C B s _ (AreInOneClass B z) (AreInOneClass C z) from (λ q. class_of_part C B z q from) of_face,
      has_beside C B s _ P Q from weaker beyond,
    ),
  )

  has_links : (P Q : Place → Type 0) (c d : List GridPoint) → ((q : Place) → P q → Q q) → IsBorderCycle B z P c
      → IsBorderCycle C z Q d → HasLinksOf c d
  has_links P Q c d weaker one other l there =
      other.all_links l (runs P Q weaker l (All-contains (RunsBetween B z P) (links (round c)) l one.between there))

  enclosed_too : (y : Place) → IsEnclosed B z y → IsEnclosed C z y
  enclosed_too y h = record {
    free = free_of_part C B y from h.free;
    not_outer = λ outer. h.not_outer (outer_of_part B C y into outer);
    not_of_face = λ one. h.not_of_face (class_of_part B C z y into one);
  }

-- the border between the face and a class is one cycle
one_border : (B C : List GridSegment) → IsPart B C → IsPart C B → (z : Place) (P Q : Place → Type 0) → ((q : Place) → P q → Q q)
    → ((q : Place) → Q q → P q) → (c d : List GridPoint) → IsBorderCycle B z P c → IsBorderCycle C z Q d → c ≡ d
one_border B C into from z P Q weaker back c d one other =
    one_cycle c d one.is_cycle other.is_cycle one.begins_least other.begins_least
    (has_links B C into from z P Q c d weaker one other) (has_links C B from into z Q P d c back other one)

-- a hole goes round a class that the other rim encloses too
hole_too : (B C : List GridSegment) → IsPart B C → IsPart C B → (z : Place) (f g : Face) → IsBounded B z f → IsBounded C z g
    → (hole : List GridPoint) → Contains f.holes hole → Contains g.holes hole
hole_too B C into from z f g one other hole there =
    let (y, enclosed, cycle) = one.only hole there in
    let (k, also, within, is, round_y) = other.each y (enclosed_too B C into from z y enclosed) in
    let same = one_border B C into from z (AreInOneClass B y) (AreInOneClass C y) (λ q. class_of_part C B y q from)
    (λ q. class_of_part B C y q into) hole also cycle round_y in
    subst (Contains g.holes) (sym same) (k, within, is)

-- ---- lists in order
-- of two lists not each comes before the other
lists_one_way : (c d : List GridPoint) → IsListBefore c d → IsListBefore d c → ⊥
lists_one_way [] [] before after = before
lists_one_way [] (q ∷ d) before after = after
lists_one_way (p ∷ c) [] before after = before
lists_one_way (p ∷ c) (q ∷ d) (inl less) (inl more) = IsBefore-asym p q less more
lists_one_way (p ∷ c) (q ∷ d) (inl less) (inr (same, rest)) =
    let itself = subst (IsBefore p) same less in IsBefore-asym p p itself itself
lists_one_way (p ∷ c) (q ∷ d) (inr (same, rest)) (inl more) =
    let itself = subst (IsBefore q) same more in IsBefore-asym q q itself itself
lists_one_way (p ∷ c) (q ∷ d) (inr (same, rest)) (inr (again, back)) = lists_one_way c d rest back

-- ---- faces
-- what is on the rim of a face is on each of its rims
pub rim_part : (border B C : List GridSegment) (z : Place) → IsRim border z B → IsRim border z C → IsPart B C
rim_part border B C z one other s there =
    let (in_border, side) = one.of_these s there in other.all s side.0 in_border side.1 side.2

face_of : List GridPoint → List (List GridPoint) → Face
face_of outer holes = record { outer = outer; holes = holes }

-- a face is given by the cycles of any of its rims
one_face : (border : List GridSegment) (z : Place) (f g : Face) → IsFaceOf border z f → IsFaceOf border z g → f ≡ g
unfolding face_of
one_face border z f g one other =
    let B = one.rim in
    let C = other.rim in
    let into = rim_part border B C z one.is_rim other.is_rim in
    let from = rim_part border C B z other.is_rim one.is_rim in
    let outer = one_border B C into from z (IsOuter B) (IsOuter C) (λ q. outer_of_part C B q from) (λ q. outer_of_part B C q into)
    f.outer g.outer one.bounded.outer_cycle other.bounded.outer_cycle in
    let holes = one_list IsListBefore lists_one_way f.holes g.holes one.bounded.ascending other.bounded.ascending
    (hole_too B C into from z f g one.bounded other.bounded) (hole_too C B from into z g f other.bounded one.bounded) in
    ap₂ face_of outer holes

-- the face of a place in the one list is that in the other
face_too : (border : List GridSegment) (fs gs : List Face) → AreFaces border fs → AreFaces border gs → (f : Face) → Contains fs f
    → Contains gs f
face_too border fs gs one other f there =
    let (z, of_face) = one.only f there in
    let (k, g, within, is, also) = other.each z of_face.interior in
    subst (Contains gs) (sym (one_face border z f g of_face also)) (k, within, is)

-- each face of the one list is in the other, and both are in one order
pub one_faces : (border : List GridSegment) (fs gs : List Face) → AreFaces border fs → AreFaces border gs → fs ≡ gs
one_faces border fs gs one other =
    one_list (λ (f g : Face). IsListBefore f.outer g.outer) (λ f g. lists_one_way f.outer g.outer) fs gs one.ascending
    other.ascending (face_too border fs gs one other) (face_too border gs fs other one)
