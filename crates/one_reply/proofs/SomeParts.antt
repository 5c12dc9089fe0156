-- This file shows that each value has parts, where a region is on the grid.
use Rattle.std.proofs.Common.{◌≡◌, List, [], ◌∷◌, map, get_or, slice_index, All, AllPairs, Contains, refl, sym, ap, subst, ◌∙◌, arith}
use Rattle.std.specs.List.{AllZip}
use Rattle.std.proofs.lemmas.List.Elements.{All-contains}
use Rattle.grid_base.specs.Border.{AreNoded, IsEvenBorder}
use Rattle.grid_base.specs.Point.{GridPoint, IsBefore}
use Rattle.grid_base.specs.Segment.{GridSegment, IsSegmentBefore}
use Rattle.grid_base.specs.Plane.{Place}
use Rattle.grid_base.proofs.Elements.{same_place}
use Rattle.rose_values.specs.declared.geometry.Geometry.{Geometry}
use Rattle.rose_values.specs.declared.geometry.Geometry.TheVariants.{P, L, R}
use Rattle.rose_values.specs.Operators.{segments_of}
use Rattle.rose_operators.specs.Results.{IsAscending}
use Rattle.segment_lists.specs.OnGrid.{IsOnGrid}
use Rattle.plane_cells.specs.Numbered.{nowhere}
use Rattle.r_blocks.specs.Places.{those}
use Rattle.r_faces.specs.FaceCycles.{IsFaceOf}
use Rattle.r_faces.specs.declared.face.Face.{Face}
use Rattle.rose_sets.specs.Parts.{AreParts}
use Rattle.rose_sets.specs.FaceRegions.{IsRegionOfFace}
use Rattle.rose_sets.proofs.FaceBegins.{face_begins, region_of_face}
use Rattle.rose_sets.proofs.FaceNumbers.{face_region}
use Rattle.rose_sets.proofs.FaceSums.{HaveFaces}
use Rattle.rose_sets.proofs.MadeRegions.{made_parts}
use Rattle.rose_sets.proofs.OrderlyBorders.{IsOrderly, orderly}
use Rattle.rose_sets.proofs.ValueLists.{all_of, made_of}
use Rattle.rose_sets.proofs.ZippedLists.{all_of_zip}
use Rattle.one_reply.proofs.SomeComponents.{has_numbers, is_known, odd_sides, are_odd, blocks_of}
use Rattle.one_reply.proofs.SomeFaces.{some_faces, zipped}
use Rattle.one_reply.proofs.SomeGeometry.{IsEvenValue}

-- the parts of the value, each of which ascends
pub record HasParts (g : Geometry) : Type 0 where
  pub parts : List Geometry
  pub are : AreParts g parts
  pub ascending : All IsAscending parts

-- what is made of lists that ascend ascends
all_ascend : {X : Type 0} (f : X → Geometry) (xs : List X) → ((x : X) → Contains xs x → IsAscending (f x)) → All IsAscending (map f xs)
all_ascend f xs up = all_of IsAscending (map f xs)
    (λ g there. let (x, in_list, is) = made_of f xs g there in subst IsAscending is (up x in_list))

point_alone : (p : GridPoint) → AllPairs IsBefore (p ∷ [])
point_alone p = λ i j d before within. absurd (omega (arith, before, within))

-- ---- the faces of a region
-- the border of a face is found by the segment along which its outer cycle begins
module _ (B : List GridSegment) (noded : AreNoded B) (up : AllPairs IsSegmentBefore B) (even : IsEvenBorder B) (grid : All IsOnGrid B) where
  in_order : IsOrderly B
  in_order = orderly B noded up even grid

  face_part : (f : Face) → ((z : Place) × IsFaceOf B z f) → (part : List GridSegment) × IsRegionOfFace B f part
  face_part f (z, of_face) =
      let K = odd_sides B noded up even grid in
      let v = get_or f.outer 0 (record { x = 0; y = 0 }) in
      let w = get_or f.outer 1 (record { x = 0; y = 0 }) in
      let three = of_face.bounded.outer_cycle.is_cycle.three in
      let at_v = same_place f.outer 0 (record { x = 0; y = 0 }) v (omega (arith, three)) in
      let at_w = same_place f.outer 1 (record { x = 0; y = 0 }) w (omega (arith, three)) in
      let begins = face_begins B z f v w in_order of_face at_v at_w in
      let (i, within, is) = begins.there in (
        those (slice_index K i) K B,
        region_of_face B i f v w (those (slice_index K i) K B) in_order within
            (same_place B i nowhere _ within ∙ is) at_v at_w
            (face_region B (has_numbers B noded up even grid).numbers K i (is_known B noded up even grid) (are_odd B noded up even grid) within),
      )

  region_parts : HasParts (R B)
  region_parts =
      let (faces, are) = some_faces B noded up even grid in
      let (borders, own) = zipped (λ (f : Face). (z : Place) × IsFaceOf B z f) (IsRegionOfFace B) face_part faces
      (all_of (λ (f : Face). (z : Place) × IsFaceOf B z f) faces are.only) in
      let have : HaveFaces B faces (map (λ (C : List GridSegment). C) borders) = record {
        orderly = in_order;
        are_faces = are;
        own = subst (AllZip (IsRegionOfFace B) faces) (sym (map_itself borders)) own;
      } in record {
        parts = map (λ (C : List GridSegment). R C) borders;
        are = made_parts (λ (C : List GridSegment). C) B faces borders (map (λ (C : List GridSegment). R C) borders) have refl;
        ascending = all_ascend (λ (C : List GridSegment). R C) borders
            (λ C there. All-contains (AllPairs IsSegmentBefore) borders C
            (all_of_zip (IsRegionOfFace B) (AllPairs IsSegmentBefore) faces borders (λ f C region. region.ascending) own) there);
      }
    where
      map_itself : (lists : List (List GridSegment)) → map (λ (C : List GridSegment). C) lists ≡ lists
      map_itself [] = refl
      map_itself (C ∷ lists) = ap (λ (l : List (List GridSegment)). C ∷ l) (map_itself lists)

-- ---- every value
pub some_parts : (g : Geometry) → AreNoded (segments_of g) → IsAscending g → IsEvenValue g → All IsOnGrid (segments_of g) → HasParts g
some_parts (P points) noded up even grid = record {
  parts = map (λ p. P (p ∷ [])) points;
  are = refl;
  ascending = all_ascend (λ (p : GridPoint). P (p ∷ [])) points (λ p there. point_alone p);
}
some_parts (L lines) noded up even grid =
    let has = blocks_of lines up in record {
      parts = map (λ block. L block) has.blocks;
      are = record { blocks = has.blocks; are_blocks = has.are; in_order = has.in_order; as_lines = refl };
      ascending = all_ascend (λ (C : List GridSegment). L C) has.blocks has.ascending;
    }
some_parts (R border) noded up even grid = region_parts border noded up even grid
