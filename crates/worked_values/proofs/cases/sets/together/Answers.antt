use Rattle.std.proofs.Common.{ap, ◌∙◌}
use Rattle.std.proofs.lemmas.List.{take_all}
use Rattle.rose_sets.specs.Sums.{all_segments}
use Rattle.rose_sets.proofs.ValueLists.{segments_so_far}
use Rattle.worked_values.proofs.cases.sets.together.Goals as goal

-- those of one value more
pub loop-g-preserved : goal.loop-g-preserved
loop-g-preserved c =
    segments_so_far c.args.list.now c.loop-g.all.items c.segments_of.result.now c.extend_from_slice.new.self.items c.loop-g.g-index
    c.g-item.result c.loop-g-test.true c.g-item.is c.segments_of.ensures c.in_ok-extend_from_slice.ensures.items
    c.loop-g.invariant

-- all values are gone through
pub returns : goal.returns
returns c = c.loop-g.invariant ∙ ap all_segments (take_all c.loop-g.g-index c.args.list.now c.loop-g-test.false)
