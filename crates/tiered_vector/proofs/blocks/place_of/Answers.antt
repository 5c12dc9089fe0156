-- The first start is 0, so at least one is no more than index; the last of those is the start of the block.
use Rattle.tiered_vector.proofs.Places.{one_there, start_before, is_place}
use Rattle.tiered_vector.proofs.blocks.place_of.Goals as goal

pub overflow_sub-block : goal.overflow_sub-block
overflow_sub-block c =
    one_there c.args.starts.now c.args.index c.starts_up_to-block.result c.requires.from_zero c.starts_up_to-block.ensures.parted

pub overflow_sub-result : goal.overflow_sub-result
overflow_sub-result c =
    let point = c.starts_up_to-block.ensures.parted in
    start_before c.args.starts.now c.args.index c.starts_up_to-block.result
    (one_there c.args.starts.now c.args.index c.starts_up_to-block.result c.requires.from_zero point)
    c.starts_up_to-block.ensures.within point

pub returns : goal.returns
returns c =
    let point = c.starts_up_to-block.ensures.parted in
    is_place c.args.starts.now c.args.index c.starts_up_to-block.result
    (one_there c.args.starts.now c.args.index c.starts_up_to-block.result c.requires.from_zero point)
    c.starts_up_to-block.ensures.within point
