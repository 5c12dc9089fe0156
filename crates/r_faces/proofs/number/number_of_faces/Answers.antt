use Rattle.std.proofs.Common.{◌≡◌, ℕ, ◌++◌, List, length, sym, subst, ⊎_elim, arith}
use Rattle.std.proofs.lemmas.List.Elements.{Contains-append_cases}
use Rattle.std.proofs.lemmas.List.Kept.{AllPairs-from_increasing}
use Rattle.grid_base.specs.Segment.{GridSegment}
use Rattle.grid_base.specs.Border.{AreNoded, IsEvenBorder}
use Rattle.plane_cells.specs.declared.classes.SideClasses.{SideClasses}
use Rattle.segment_lists.proofs.Noding.{noded_part}
use Rattle.r_faces.specs.Faces.{IsNumberOfFaces}
use Rattle.r_faces.specs.Rims.{AreOddSides}
use Rattle.r_faces.proofs.FaceNumbers.{by_sides, faces_by_numbers}
use Rattle.r_faces.proofs.number.number_of_faces.Goals as goal

-- the list that is gone over is the region's border
pub outer_class_is_even-requires : goal.outer_class_is_even-requires
outer_class_is_even-requires c =
    record { even = subst IsEvenBorder (sym c.segments-border.ensures.segments) c.segments-border.ensures.even }

pub classes_have_one_parity-requires : goal.classes_have_one_parity-requires
classes_have_one_parity-requires c =
    record { even = subst IsEvenBorder (sym c.segments-border.ensures.segments) c.segments-border.ensures.even }

pub sides_of_list-requires-clause-noded : goal.sides_of_list-requires-clause-noded
sides_of_list-requires-clause-noded c =
    let B = c.segments-border.result.now in
    noded_part (B ++ B) B (λ s there. ⊎_elim (λ m. m) (λ m. m) (Contains-append_cases B B s there))
    (subst AreNoded (sym c.segments-border.ensures.segments) c.segments-border.ensures.noded)

pub sides_of_list-requires-clause-even : goal.sides_of_list-requires-clause-even
sides_of_list-requires-clause-even c = subst IsEvenBorder (sym c.segments-border.ensures.segments) c.segments-border.ensures.even

pub odd_sides-requires-clause-even : goal.odd_sides-requires-clause-even
odd_sides-requires-clause-even c = subst IsEvenBorder (sym c.segments-border.ensures.segments) c.segments-border.ensures.even

-- there is one face for each number
pub returns : goal.returns
returns c =
    let border = c.segments-border.result.now in
    let classes = c.in_ok-classes.classes.items in
    let list = c.in_ok-odd_sides.field-0.items in
    let ns = c.distinct-numbers.result.items in
    let odd = by_sides border classes (length border) list
    (subst (λ (m : List SideClasses). AreOddSides border m (length border) list) c.deref.ensures.value c.in_ok-odd_sides.ensures) in
    let number = faces_by_numbers border classes list ns c.in_ok-classes.ensures c.outer_class_is_even.ensures
    c.classes_have_one_parity.ensures odd (AllPairs-from_increasing ns c.distinct-numbers.ensures.ascending)
    c.distinct-numbers.ensures.same in
    let as_many : c.len.result ≡ length ns = omega (arith, c.len.ensures, c.distinct-numbers.result.ok) in
    subst (λ (n : ℕ). IsNumberOfFaces c.args.r.now n) (sym as_many)
    (subst (λ (B : List GridSegment). IsNumberOfFaces B (length ns)) c.segments-border.ensures.segments number)
