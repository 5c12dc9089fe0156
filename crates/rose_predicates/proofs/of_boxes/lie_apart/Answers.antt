use Rattle.rose_predicates.proofs.BoxedValues.{no_place, no_segment}
use Rattle.rose_predicates.proofs.of_boxes.lie_apart.Goals as goal

-- what is on a segment is in the box
pub returns-clause-places : goal.returns-clause-places
returns-clause-places c = λ e.
    no_place c.box_of.result c.box_of-2.result c.args.a.now c.args.b.now c.box_of.ensures c.box_of-2.ensures (c.are_apart.ensures.0 e)

pub returns-clause-segments : goal.returns-clause-segments
returns-clause-segments c = λ e.
    no_segment c.box_of.result c.box_of-2.result c.args.a.now c.args.b.now c.box_of.ensures c.box_of-2.ensures (c.are_apart.ensures.0 e)
