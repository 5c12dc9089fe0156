use Rattle.grid_base.proofs.Orders.{is_segment, is_segment-itself, is_segment-same}
use Rattle.rose_predicates.proofs.PointSets.{lines_equal}
use Rattle.rose_predicates.proofs.Truths.{lists_told, same_told, told_by}
use Rattle.rose_predicates.proofs.of_lines.are_equal.Goals as goal

-- ascending lists with the same segments are one
pub returns : goal.returns
returns c =
    told_by (same_told c.eq.ensures (lists_told is_segment is_segment-same is_segment-itself c.args.a.now c.args.b.now))
    (lines_equal c.args.a.now c.args.b.now c.requires.noded c.lesser_ends_first.ensures c.lesser_ends_first-2.ensures
    c.requires.ascending_first c.requires.ascending_second)
