-- This file shows that the segments of the parts of a value are the value's own, and that the sum of the parts is the value.
use Rattle.std.proofs.Common.{◌≡◌, ◌≢◌, List, [], ◌∷◌, map, Contains, All, Result, refl, sym, ap, subst, ◌∙◌}
use Rattle.std.specs.Result.{IfOk}
use Rattle.std.proofs.lemmas.Result.{IfOk-weaker}
use Rattle.std.proofs.lemmas.List.Elements.{All-contains}
use Rattle.grid_base.specs.Point.{GridPoint, IsBefore}
use Rattle.grid_base.specs.Segment.{GridSegment}
use Rattle.grid_base.specs.Border.{AreNoded}
use Rattle.rose_values.specs.Operators.{segments_of}
use Rattle.rose_values.specs.declared.geometry.Geometry.{Geometry}
use Rattle.rose_values.specs.declared.geometry.Geometry.TheVariants.{P, L, R}
use Rattle.rose_overlay.proofs.Parted.{noded_part}
use Rattle.rose_operators.specs.Results.{IsAscending}
use Rattle.rose_sets.specs.Sums.{all_segments, IsSum}
use Rattle.rose_sets.specs.Parts.{IsBorderOfFace, AreParts}
use Rattle.rose_sets.proofs.ValueLists.{HasSegment, all_of, found_in, made_of, segment_in_all}
use Rattle.rose_sets.proofs.ZippedLists.{of_second}
use Rattle.rose_sets.proofs.OneSum.{one_sum}

-- ---- points have no segments
no_segments : (points : List GridPoint) → all_segments (map (λ p. P (p ∷ [])) points) ≡ []
no_segments [] = refl
no_segments (p ∷ points) = no_segments points

-- ---- the segments of lists that are values by themselves
segments_in : (f : List GridSegment → Geometry) (lists : List (List GridSegment)) (B : List GridSegment)
    → ((C : List GridSegment) → segments_of (f C) ≡ C)
    → ((C : List GridSegment) (s : GridSegment) → Contains lists C → Contains C s → Contains B s) → (s : GridSegment)
    → Contains (all_segments (map f lists)) s → Contains B s
segments_in f lists B own within s there =
    let g = found_in (HasSegment s) (map f lists) (segment_in_all (map f lists) s there) in
    let m = made_of f lists g.0 g.1 in
    within m.0 s m.1
    (subst (λ (l : List GridSegment). Contains l s) (own m.0) (subst (λ (h : Geometry). Contains (segments_of h) s) (sym m.2) g.2))

pub parts_within : (g : Geometry) (parts : List Geometry) → AreParts g parts → (s : GridSegment) → Contains (all_segments parts) s
    → Contains (segments_of g) s
parts_within (P points) parts is s there =
    subst (λ (l : List GridSegment). Contains l s) (ap all_segments is ∙ no_segments points) there
parts_within (L lines) parts h s there =
    segments_in (λ C. L C) h.blocks lines (λ C. refl) (λ C t listed own. h.are_blocks.of_these C t listed own) s
    (subst (λ (l : List Geometry). Contains (all_segments l) s) h.as_lines there)
parts_within (R border) parts h s there =
    segments_in (λ C. R C) h.borders border (λ C. refl)
    (λ C t listed own. let f = of_second (IsBorderOfFace border) h.faces h.borders C h.own listed in
    ((f.2.is_rim f.2.place f.2.of_face).of_these t own).0) s
    (subst (λ (l : List Geometry). Contains (all_segments l) s) h.as_regions there)

pub parts_noded : (g : Geometry) (parts : List Geometry) → AreNoded (segments_of g) → AreParts g parts → AreNoded (all_segments parts)
parts_noded g parts noded are = noded_part (segments_of g) (all_segments parts) (parts_within g parts are) noded

pub all_noded : {V E : Type 0} (items : V → List Geometry) (made : Result V E) (g h : Geometry) → AreNoded (segments_of g) → g ≡ h
    → IfOk made (λ v. AreParts h (items v)) → IfOk made (λ v. AreNoded (all_segments (items v)))
all_noded items made g h noded is are =
    IfOk-weaker made (λ v. AreParts h (items v)) (λ v. AreNoded (all_segments (items v)))
    (λ v parts. parts_noded h (items v) (subst (λ (k : Geometry). AreNoded (segments_of k)) is noded) parts) are

-- ---- the sum of the parts
pub sum_of_parts : (g h : Geometry) (parts : List Geometry) → AreParts g parts → parts ≢ [] → AreNoded (segments_of g)
    → All (λ s. IsBefore s.a s.b) (segments_of g) → IsAscending g → IsAscending h → IsSum parts g → IsSum parts h → h ≡ g
sum_of_parts g h parts are some noded ordered up up_too is also =
    one_sum parts h g some (parts_noded g parts noded are)
    (all_of (λ (s : GridSegment). IsBefore s.a s.b) (all_segments parts)
    (λ s there. All-contains (λ (t : GridSegment). IsBefore t.a t.b) (segments_of g) s ordered (parts_within g parts are s there)))
    up_too up also is
