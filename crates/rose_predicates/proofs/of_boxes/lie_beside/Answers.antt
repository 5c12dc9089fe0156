use Rattle.rose_predicates.proofs.BoxedValues.{no_common_area, no_reaching}
use Rattle.rose_predicates.proofs.of_boxes.lie_beside.Goals as goal

-- what is interior to a region is strictly inside its box
pub returns-clause-lines : goal.returns-clause-lines
returns-clause-lines c = λ e even.
    no_reaching c.box_of.result c.box_of-2.result c.args.a.now c.args.b.now c.box_of.ensures c.box_of-2.ensures even
    (c.are_beside.ensures.0 e)

pub returns-clause-regions : goal.returns-clause-regions
returns-clause-regions c = λ e even_a even_b.
    no_common_area c.box_of.result c.box_of-2.result c.args.a.now c.args.b.now c.box_of.ensures c.box_of-2.ensures even_a even_b
    (c.are_beside.ensures.0 e)
