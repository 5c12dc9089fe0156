-- This file shows that the regions of the faces of a region make up the region.
use Rattle.std.proofs.Common.{◌≡◌, List, [], ◌∷◌, map, Contains}
use Rattle.std.proofs.Common.{refl, sym, subst}
use Rattle.std.specs.List.{AllZip}
use Rattle.grid_base.specs.Segment.{GridSegment}
use Rattle.grid_base.specs.Plane.{Place, IsFree}
use Rattle.grid_base.specs.Odd.{Odd}
use Rattle.grid_base.specs.declared.kinds.Kind.TheVariants.{Regions}
use Rattle.grid_base.proofs.Elements.{Contains-here, Contains-later}
use Rattle.rose_values.specs.Areas.{IsInteriorPoint}
use Rattle.rose_values.specs.Geometry.{kind_of}
use Rattle.rose_values.specs.Operators.{segments_of}
use Rattle.rose_values.specs.declared.geometry.Geometry.{Geometry}
use Rattle.rose_values.specs.declared.geometry.Geometry.TheVariants.{R}
use Rattle.plane_classes.proofs.ClassLemmas.{itself_in_class}
use Rattle.plane_classes.proofs.Counts.{one_parity}
use Rattle.plane_classes.proofs.FewerSegments.{IsPart, free_of_part}
use Rattle.r_faces.specs.FaceCycles.{IsFaceOf, AreFaces}
use Rattle.r_faces.specs.declared.face.Face.{Face}
use Rattle.rose_sets.specs.Sums.{all_segments, SomeHasPlace, IsSum}
use Rattle.rose_sets.specs.Parts.{IsBorderOfFace}
use Rattle.rose_sets.specs.FaceRegions.{IsRegionOfFace}
use Rattle.rose_sets.proofs.ValueLists.{some_of, found_in, all_of, made_of, made_there, all_have}
use Rattle.rose_sets.proofs.ZippedLists.{of_second, of_first}
use Rattle.rose_sets.proofs.OrderlyBorders.{IsOrderly, inner_beside}

-- ---- faces and their borders
pub record HaveFaces (B : List GridSegment) (faces : List Face) (borders : List (List GridSegment)) : Type 0 where
  pub orderly : IsOrderly B
  pub are_faces : AreFaces B faces
  pub own : AllZip (IsRegionOfFace B) faces borders

own_borders : (B : List GridSegment) (faces : List Face) (borders : List (List GridSegment))
    → ((f : Face) → Contains faces f → (z : Place) × IsFaceOf B z f) → AllZip (IsRegionOfFace B) faces borders
    → AllZip (IsBorderOfFace B) faces borders
own_borders B [] [] of_face zip = tt
own_borders B [] (C ∷ borders) of_face zip = absurd zip
own_borders B (f ∷ faces) [] of_face zip = absurd zip
own_borders B (f ∷ faces) (C ∷ borders) of_face zip =
    let z = of_face f (Contains-here f faces) in (
      record { place = z.0; of_face = z.1; is_rim = zip.0.is_rim },
      own_borders B faces borders (λ g there. of_face g (Contains-later f faces g there)) zip.1,
    )

pub borders_own : (B : List GridSegment) (faces : List Face) (borders : List (List GridSegment)) → HaveFaces B faces borders
    → AllZip (IsBorderOfFace B) faces borders
borders_own B faces borders h = own_borders B faces borders h.are_faces.only h.own

-- each part has segments of the border
pub part_of : (B : List GridSegment) (faces : List Face) (borders : List (List GridSegment)) (C : List GridSegment)
    → HaveFaces B faces borders → Contains borders C → IsPart C B
part_of B faces borders C h there s in_C =
    let f = of_second (IsRegionOfFace B) faces borders C h.own there in
    let z = h.are_faces.only f.0 f.1 in
    ((f.2.is_rim z.0 z.1).of_these s in_C).0

-- the border of the face of an inner point
pub record HasBorderAt (B : List GridSegment) (borders : List (List GridSegment)) (z : Place) : Type 0 where
  pub border : List GridSegment
  pub listed : Contains borders border
  pub face : Face
  pub of_face : IsFaceOf B z face
  pub own : IsRegionOfFace B face border

border_at : (B : List GridSegment) (faces : List Face) (borders : List (List GridSegment)) (z : Place) → HaveFaces B faces borders
    → IsInteriorPoint B z → HasBorderAt B borders z
border_at B faces borders z h inner =
    let f = found_in (IsFaceOf B z) faces (h.are_faces.each z inner) in
    let C = of_first (IsRegionOfFace B) faces borders f.0 h.own f.1 in
    record { border = C.0; listed = C.1; face = f.0; of_face = f.2; own = C.2 }

-- each segment of the border is in some part
in_some_part : (B : List GridSegment) (faces : List Face) (borders : List (List GridSegment)) (s : GridSegment) → HaveFaces B faces borders
    → Contains B s → Contains (all_segments (map (λ C. R C) borders)) s
in_some_part B faces borders s h there =
    let i = inner_beside B s h.orderly there in
    let at = border_at B faces borders i.place h i.inner in
    all_have (map (λ C. R C) borders) (R at.border) s (made_there (λ (C : List GridSegment). R C) borders at.border at.listed)
    ((at.own.is_rim i.place at.of_face).all s i.side there i.sided (i.place, i.beside, itself_in_class B i.place i.inner.0))

-- ---- the sum of the parts
pub faces_summed : (B : List GridSegment) (faces : List Face) (borders : List (List GridSegment)) → HaveFaces B faces borders
    → IsSum (map (λ C. R C) borders) (R B)
faces_summed B faces borders h = (
  all_of (λ (g : Geometry). kind_of g ≡ Regions) (map (λ C. R C) borders)
      (λ g there.
      (let m = made_of (λ (C : List GridSegment). R C) borders g there in
      subst (λ (k : Geometry). kind_of k ≡ Regions) m.2 refl)),
  record {
    of_these = λ s there. in_some_part B faces borders s h there;
    even = h.orderly.even;
    places = λ q free.
        (let free_B = free_of_part B (all_segments (map (λ C. R C) borders)) q (λ s there. in_some_part B faces borders s h there) free in
        (λ odd. from_odd q free_B odd, λ some. to_odd q free_B some));
  },
)
  where
    from_odd : (q : Place) → IsFree B q → Odd B q → SomeHasPlace (map (λ C. R C) borders) q
    from_odd q free odd =
        let at = border_at B faces borders q h (free, odd) in
        some_of (λ (g : Geometry). Odd (segments_of g) q) (map (λ C. R C) borders) (R at.border)
        (made_there (λ (C : List GridSegment). R C) borders at.border at.listed)
        ((at.own.places q q at.of_face free).1 (itself_in_class B q free))

    to_odd : (q : Place) → IsFree B q → SomeHasPlace (map (λ C. R C) borders) q → Odd B q
    to_odd q free some =
        let f = found_in (λ (g : Geometry). Odd (segments_of g) q) (map (λ C. R C) borders) some in
        let m = made_of (λ (C : List GridSegment). R C) borders f.0 f.1 in
        let odd : Odd m.0 q = subst (λ (g : Geometry). Odd (segments_of g) q) (sym m.2) f.2 in
        let face = of_second (IsRegionOfFace B) faces borders m.0 h.own m.1 in
        let z = h.are_faces.only face.0 face.1 in
        (one_parity B h.orderly.ordered h.orderly.even z.0 q ((face.2.places z.0 q z.1 free).0 odd)).0 z.1.interior.1
