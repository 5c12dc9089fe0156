use Rattle.rose_predicates.proofs.BoxedValues.{lines_lie_in, region_lies_in, shut_in_lies_in}
use Rattle.rose_predicates.proofs.RegionSides.{borders_of}
use Rattle.rose_predicates.proofs.Truths.{not_told}
use Rattle.rose_predicates.proofs.of_boxes.reaches_out.Goals as goal

-- what is inside a region lies in its box
pub returns-clause-lines : goal.returns-clause-lines
returns-clause-lines c = λ e even inside.
    (not_told c.lies_in.ensures).0 e
    (lines_lie_in c.box_of.result c.box_of-2.result c.args.a.now c.args.b.now c.box_of.ensures c.box_of-2.ensures
    c.lesser_ends_first.ensures even inside)

pub returns-clause-regions : goal.returns-clause-regions
returns-clause-regions c = λ e even inside.
    (not_told c.lies_in.ensures).0 e
    (region_lies_in c.box_of.result c.box_of-2.result c.args.a.now c.args.b.now c.box_of.ensures c.box_of-2.ensures
    c.lesser_ends_first.ensures even inside)

-- and so does what its border shuts in
pub returns-clause-shut_in : goal.returns-clause-shut_in
returns-clause-shut_in c = λ e noded outer inner shut.
    (not_told c.lies_in.ensures).0 e
    (shut_in_lies_in c.box_of.result c.box_of-2.result c.args.a.now c.args.b.now c.box_of.ensures c.box_of-2.ensures
    c.lesser_ends_first.ensures
    (borders_of c.args.b.now c.args.a.now noded outer inner c.lesser_ends_first-2.ensures c.lesser_ends_first.ensures)
    inner.ascending shut)
