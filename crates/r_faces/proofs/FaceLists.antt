-- This file shows that the faces within the rims of a region are its faces.
use Rattle.std.proofs.Common.{◌≡◌, ◌≢◌, ◌⊎◌, ℕ, ◌+◌, ◌<◌, List, [], ◌∷◌, ◌++◌, length, get_or, take, Contains, All, AllPairs, Any}
use Rattle.std.proofs.Common.{sym, ap, subst, ◌∙◌, inl, inr, arith}
use Rattle.std.specs.List.{AllZip}
use Rattle.std.specs.List.Sorted.{IsPermutation}
use Rattle.std.proofs.lemmas.List.{take_more}
use Rattle.std.proofs.lemmas.List.Elements.{Contains-get_or, All-contains}
use Rattle.std.proofs.lemmas.List.Sorted.{Contains-permutation, IsPermutation-sym}
use Rattle.grid_base.specs.Point.{GridPoint, IsBefore}
use Rattle.grid_base.specs.Segment.{GridSegment}
use Rattle.grid_base.specs.Plane.{Place}
use Rattle.grid_base.proofs.Orders.{IsBefore-asym}
use Rattle.grid_base.proofs.Collinear.{same_segment}
use Rattle.rose_values.specs.Areas.{IsInteriorPoint}
use Rattle.plane_classes.specs.Classes.{IsOuter}
use Rattle.segment_lists.specs.OnGrid.{IsOnGrid}
use Rattle.r_cycles.specs.Cycles.{Link, link, links, round}
use Rattle.r_faces.specs.FaceCycles.{RunsBetween, IsBorderCycle, IsFaceOf, AreFaces}
use Rattle.r_faces.specs.Rims.{IsFaceRim, IsSomeRim, HaveNone, IsWithin}
use Rattle.r_faces.specs.Turned.{IsListBefore}
use Rattle.r_faces.specs.declared.face.Face.{Face}
use Rattle.r_faces.proofs.FaceRims.{at_zip, long_zip}
use Rattle.r_faces.proofs.FaceBounds.{some_link}
use Rattle.r_faces.proofs.ListsApart.{ascends_strictly}

-- ---- one face more
zip_last : {X Y : Type 0} (R : X → Y → Type 0) (xs : List X) (ys : List Y) (x : X) (y : Y) → AllZip R xs ys → R x y
    → AllZip R (xs ++ x ∷ []) (ys ++ y ∷ [])
zip_last R [] [] x y h k = (k, tt)
zip_last R [] (b ∷ ys) x y h k = absurd h
zip_last R (a ∷ xs) [] x y h k = absurd h
zip_last R (a ∷ xs) (b ∷ ys) x y h k = (h.0, zip_last R xs ys x y h.1 k)

pub zip_more : {X Y : Type 0} (R : X → Y → Type 0) (xs : List X) (ys more : List Y) (k : ℕ) (x : X) (y : Y) → k < length xs
    → x ≡ get_or xs k x → more ≡ ys ++ y ∷ [] → AllZip R (take k xs) ys → R x y → AllZip R (take (k + 1) xs) more
zip_more R xs ys more k x y within at e h here =
    subst (AllZip R (take (k + 1) xs)) (sym e)
    (subst (λ l. AllZip R l (ys ++ y ∷ [])) (sym (take_more xs k x within ∙ ap (λ z. take k xs ++ z ∷ []) (sym at)))
    (zip_last R (take k xs) ys x y h here))

-- ---- a link leads along one segment

-- the link is one of s, one way or the other
abbrev Leads : GridSegment → Link → Type 0
Leads s l = (l ≡ link s.a s.b) ⊎ (l ≡ link s.b s.a)

one_led : (s t : GridSegment) (l : Link) → IsBefore s.a s.b → IsBefore t.a t.b → Leads s l → Leads t l → s ≡ t
one_led s t l o p (inl e) (inl f) =
    let g = sym e ∙ f in same_segment s t (ap (λ (k : Link). k.from) g) (ap (λ (k : Link). k.to) g)
one_led s t l o p (inl e) (inr f) =
    let g = sym e ∙ f in
    absurd (IsBefore-asym s.a s.b o (subst (λ (v : GridPoint). IsBefore v s.a) (sym (ap (λ (k : Link). k.to) g))
    (subst (λ (v : GridPoint). IsBefore t.a v) (sym (ap (λ (k : Link). k.from) g)) p)))
one_led s t l o p (inr e) (inl f) =
    let g = sym e ∙ f in
    absurd (IsBefore-asym s.a s.b o (subst (λ (v : GridPoint). IsBefore v s.a) (sym (ap (λ (k : Link). k.from) g))
    (subst (λ (v : GridPoint). IsBefore t.a v) (sym (ap (λ (k : Link). k.to) g)) p)))
one_led s t l o p (inr e) (inr f) =
    let g = sym e ∙ f in same_segment s t (ap (λ (k : Link). k.to) g) (ap (λ (k : Link). k.from) g)

-- a segment of the rim along which a link of the border cycle leads
led : (rim : List GridSegment) (z : Place) (c : List GridPoint) (l : Link) → IsBorderCycle rim z (IsOuter rim) c
    → Contains (links (round c)) l → (s : GridSegment) × Contains rim s × Leads s l
led rim z c l h there = by (All-contains (RunsBetween rim z (IsOuter rim)) (links (round c)) l h.between there)
  where
    by : RunsBetween rim z (IsOuter rim) l → (s : GridSegment) × Contains rim s × Leads s l
    by (s, in_rim, inl a) = (s, in_rim, inl a.0)
    by (s, in_rim, inr a) = (s, in_rim, inr a.0)

-- faces with different rims have different outer cycles
outers_apart : (border : List GridSegment) (r s : List GridSegment) (f g : Face) → All IsOnGrid border → IsSomeRim border r
    → IsSomeRim border s → HaveNone r s → IsWithin r f → IsWithin s g → f.outer ≢ g.outer
outers_apart border r s f g grid some_r some_s none of_f of_g same =
    let first = (of_f some_r.place some_r.of_face.inside).outer_cycle in
    let second = (of_g some_s.place some_s.of_face.inside).outer_cycle in
    let l = some_link f.outer first.is_cycle in
    let a = led r some_r.place f.outer l.0 first l.1 in
    let b = led s some_s.place g.outer l.0 second (subst (λ (c : List GridPoint). Contains (links (round c)) l.0) same l.1) in
    let order_a = (All-contains IsOnGrid border a.0 grid (some_r.of_face.is_rim.of_these a.0 a.1).0).order in
    let order_b = (All-contains IsOnGrid border b.0 grid (some_s.of_face.is_rim.of_these b.0 b.1).0).order in
    none a.0 a.1 (subst (Contains s) (sym (one_led a.0 b.0 l.0 order_a order_b a.2 b.2)) b.1)

-- ---- the faces
face_here : (border rim : List GridSegment) (z : Place) (f : Face) → IsFaceRim border rim z → IsWithin rim f → IsFaceOf border z f
face_here border rim z f h of_f =
    record { interior = h.interior; rim = rim; is_rim = h.is_rim; bounded = of_f z h.inside }

pub are_faces : {X : Type 0} (items : X → List GridSegment) (border : List GridSegment) (rims : List X) (faces sorted : List Face)
    → All IsOnGrid border → All (λ r. IsSomeRim border (items r)) rims
    → ((z : Place) → IsInteriorPoint border z → Any (λ r. IsFaceRim border (items r) z) rims)
    → AllPairs (λ r s. HaveNone (items r) (items s)) rims → AllZip (λ r f. IsWithin (items r) f) rims faces → IsPermutation faces sorted
    → AllPairs (λ f g. IsListBefore g.outer f.outer → ⊥) sorted → AreFaces border sorted
are_faces {X} items border rims faces sorted grid some each apart zip moved order = record {
  only = λ face there. only face (Contains-permutation sorted faces face (IsPermutation-sym faces sorted moved) there);
  each = λ z inner. found z (each z inner);
  ascending = ascends_strictly (λ (f : Face). f.outer) faces sorted moved differ order;
}
  where
    as_many : length faces ≡ length rims
    as_many = long_zip (λ r f. IsWithin (items r) f) rims faces zip

    element : (xs : List X) (k : ℕ) → k < length xs → X
    element [] k l = absurd (omega (arith, l))
    element (x ∷ xs) k l = x

    only : (face : Face) → Contains faces face → (z : Place) × IsFaceOf border z face
    only face (k, within, is) =
        let d = element rims k (omega (arith, within, as_many)) in
        let hk : k < length rims = omega (arith, within, as_many) in
        let rim = some k d hk in
        let of_face = subst (IsWithin (items (get_or rims k d))) is (at_zip (λ r f. IsWithin (items r) f) rims faces k d face zip hk) in
        (rim.place, face_here border (items (get_or rims k d)) rim.place face rim.of_face of_face)

    face_element : (xs : List Face) (k : ℕ) → k < length xs → Face
    face_element [] k l = absurd (omega (arith, l))
    face_element (x ∷ xs) k l = x

    found : (z : Place) → Any (λ r. IsFaceRim border (items r) z) rims → Any (IsFaceOf border z) sorted
    found z (k, r, within, is, of_rim) =
        let hk : k < length faces = omega (arith, within, as_many) in
        let d = face_element faces k hk in
        let e = get_or faces k d in
        let of_face = subst (λ (x : X). IsWithin (items x) e) is (at_zip (λ r f. IsWithin (items r) f) rims faces k r d zip within) in
        let in_sorted = Contains-permutation faces sorted e moved (Contains-get_or faces k d hk) in
        (in_sorted.0, e, in_sorted.1, in_sorted.2, face_here border (items r) z e of_rim of_face)

    differ : AllPairs (λ (f g : Face). f.outer ≢ g.outer) faces
    differ i j d before within =
        let hj : j < length rims = omega (arith, within, as_many) in
        let hi : i < length rims = omega (arith, before, hj) in
        let x = element rims j hj in
        outers_apart border (items (get_or rims i x)) (items (get_or rims j x)) (get_or faces i d) (get_or faces j d) grid (some i x hi)
        (some j x hj) (apart i j x before hj) (at_zip (λ r f. IsWithin (items r) f) rims faces i x d zip hi)
        (at_zip (λ r f. IsWithin (items r) f) rims faces j x d zip hj)
