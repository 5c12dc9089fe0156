use Rattle.std.proofs.Common.{◌==◌, List, length, ap, ◌∙◌}
use Rattle.grid_base.specs.Segment.{GridSegment}
use Rattle.rose_values.specs.declared.operators.Op.TheVariants.{Minus}
use Rattle.rose_predicates.proofs.RegionSets.{empty_made, inside_told}
use Rattle.rose_predicates.proofs.RegionSides.{borders_of}
use Rattle.rose_predicates.proofs.Truths.{never, same_told, told_by}
use Rattle.rose_predicates.proofs.of_regions.is_inside.Goals as goal

-- what reaches out of the box isn't inside
pub returns-then-reaches_out : goal.returns-then-reaches_out
returns-then-reaches_out c = never (c.reaches_out.ensures.regions c.if-reaches_out.true c.requires.second.even)

-- what is made by minus is empty where it has no place, and then the first is inside
pub returns : goal.returns
returns c =
    let a = c.args.a.now in
    let b = c.args.b.now in
    let h =
    borders_of a b c.requires.noded c.requires.first c.requires.second c.lesser_ends_first.ensures c.lesser_ends_first-2.ensures in
    same_told (c.is_empty.ensures ∙ ap (λ (l : List GridSegment). length l == 0) c.segments.ensures.segments)
    (told_by (empty_made Minus a b c.in_ok-outside.outside h c.segments.ensures.ascending c.in_ok-outside.ensures)
    (inside_told a b h c.requires.first.ascending))
