-- This file shows that values have an area, distances, a width and a number of components, where their kinds have.
use Rattle.std.proofs.Common.{ℕ, ◌-◌, not, min, max, List, length, All, AllPairs, Option, Some, None, refl, subst, inl, inr, arith}
use Rattle.std.specs.List.{fold}
use Rattle.std.proofs.lemmas.List.{append-nil}
use Rattle.grid_base.specs.Border.{AreNoded, IsEvenBorder}
use Rattle.grid_base.specs.Point.{IsBefore}
use Rattle.grid_base.specs.Segment.{GridSegment, IsSegmentBefore}
use Rattle.rose_values.specs.declared.geometry.Geometry.{Geometry}
use Rattle.rose_values.specs.declared.geometry.Geometry.TheVariants.{P, L, R}
use Rattle.rose_values.specs.declared.operators.Num.{Num}
use Rattle.rose_values.specs.declared.operators.Num.TheVariants.{Area2, Dist2, Diameter2, NoOfComponents}
use Rattle.side_parity.proofs.BothSides.{right_answer, tells_right}
use Rattle.rose_measure.specs.Areas.{area_under_those, IsTwiceTheArea}
use Rattle.rose_measure.specs.Extremes.{distances}
use Rattle.one_reply.proofs.Picks.{picked, ends}
use Rattle.rose_measure.proofs.AreaCounts.{sound_border}
use Rattle.rose_measure.proofs.AreaSums.{areas_alternate}
use Rattle.rose_measure.proofs.ColumnSigns.{sound_at}
use Rattle.one_reply.proofs.Picks.{least_distance, points_diameter, lines_diameter, region_diameter}
use Rattle.realm_insert.specs.declared.refusal.Refusal.TheVariants.{Types}
use Rattle.rose_query.specs.Replies.{no_reply, number_reply}
use Rattle.rose_query.specs.Told.{TellsMeasure}
use Rattle.rose_query.proofs.Told.{components_measured}
use Rattle.one_reply.proofs.SomeComponents.{some_blocks, some_faces_number}
use Rattle.one_reply.proofs.SomeOperands.{AreFit, AreAllOnGrid, first_on_grid}

-- no less counts for a region than against it
some_area : (border : List GridSegment) → AllPairs IsSegmentBefore border → AreNoded border → All (λ s. IsBefore s.a s.b) border
    → IsEvenBorder border → (n : ℕ) × IsTwiceTheArea border n
some_area border ascending noded ordered even =
    let sound = sound_border border ascending noded even ordered in
    let below = area_under_those (right_answer border) border in
    let above = area_under_those (λ s. not (right_answer border s)) border in
    let less = areas_alternate border sound in (
      below - above,
      record {
        below = right_answer border;
        tells = λ s there. tells_right border s (sound_at border s sound there);
        total = omega (arith, less);
      },
    )

-- how many components there are asks for segments on the grid, and the other numbers for nothing
abbrev pub MayMeasure : Num → Geometry → Option Geometry → Type 0
MayMeasure NoOfComponents a b = AreAllOnGrid a b
MayMeasure num a b = Unit {0}

-- the number is told, or that it isn't one of such values
pub some_measure : (num : Num) (a : Geometry) (b : Option Geometry) → MayMeasure num a b → AreFit a b
    → (reply : List ℕ) × TellsMeasure num a b reply
some_measure NoOfComponents (P points) None grid fit =
    (number_reply (Some (length points)), components_measured (P points) (length points) refl (number_reply (Some (length points))) refl)
some_measure NoOfComponents (L lines) None grid fit =
    let (n, is) = some_blocks lines fit.first_ascends in
    (number_reply (Some n), components_measured (L lines) n is (number_reply (Some n)) refl)
some_measure NoOfComponents (R border) None grid fit =
    let noded = subst AreNoded (append-nil border) fit.noded in
    let (n, is) = some_faces_number border noded fit.first_ascends fit.first_even (first_on_grid (R border) None grid) in
    (number_reply (Some n), components_measured (R border) n is (number_reply (Some n)) refl)
some_measure Area2 (R border) None may fit =
    let alone = append-nil border in
    let (n, is) = some_area border fit.first_ascends (subst AreNoded alone fit.noded)
    (subst (All (λ s. IsBefore s.a s.b)) alone fit.ordered) fit.first_even in
    (number_reply (Some n), inr (refl, Some n, is, refl))
some_measure Dist2 (P first) (Some (P second)) may fit =
    let found = fold (picked min) None (distances first second) in
    (number_reply found, inr (refl, found, least_distance first second, refl))
some_measure Diameter2 (P points) None may fit =
    let found = fold (picked max) None (distances points points) in
    (number_reply found, inr (refl, found, points_diameter points, refl))
some_measure Diameter2 (L lines) None may fit =
    let found = fold (picked max) None (distances (ends lines) (ends lines)) in
    (number_reply found, inr (refl, found, lines_diameter lines, refl))
some_measure Diameter2 (R border) None may fit =
    let found = fold (picked max) None (distances (ends border) (ends border)) in
    (number_reply found, inr (refl, found, region_diameter border, refl))
some_measure _ _ _ may fit = (no_reply Types, inl (refl, refl))
