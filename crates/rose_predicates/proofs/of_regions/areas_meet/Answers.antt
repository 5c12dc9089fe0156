use Rattle.std.proofs.Common.{◌==◌, List, length, not, ap, ◌∙◌}
use Rattle.grid_base.specs.Segment.{GridSegment}
use Rattle.rose_values.specs.declared.operators.Op.TheVariants.{Intersection}
use Rattle.rose_predicates.proofs.RegionSets.{areas_meet, filled_made}
use Rattle.rose_predicates.proofs.RegionSides.{borders_of}
use Rattle.rose_predicates.proofs.Truths.{never, same_told, told_by}
use Rattle.rose_predicates.proofs.of_regions.areas_meet.Goals as goal

-- boxes beside each other have no inner place in common
pub returns-then-lie_beside : goal.returns-then-lie_beside
returns-then-lie_beside c =
    never (c.lie_beside.ensures.regions c.if-lie_beside.true c.requires.first.even c.requires.second.even)

-- what is made by intersection isn't empty where it has a place
pub returns : goal.returns
returns c =
    let a = c.args.a.now in
    let b = c.args.b.now in
    let h =
    borders_of a b c.requires.noded c.requires.first c.requires.second c.lesser_ends_first.ensures c.lesser_ends_first-2.ensures in
    same_told (ap not (c.is_empty.ensures ∙ ap (λ (l : List GridSegment). length l == 0) c.segments.ensures.segments))
    (told_by (filled_made Intersection a b c.in_ok-common.common h c.segments.ensures.ascending c.in_ok-common.ensures) (areas_meet a b))
