use Rattle.rose_predicates.proofs.BoxedValues.{point_of_region, point_on_lines}
use Rattle.rose_predicates.proofs.Truths.{not_told}
use Rattle.rose_predicates.proofs.of_boxes.all_are_off.Goals as goal

-- a common point is in the box
pub returns-clause-lines : goal.returns-clause-lines
returns-clause-lines c = λ e shared.
    (not_told c.some_in.ensures).0 e (point_on_lines c.box_of.result c.args.points.now c.args.list.now c.box_of.ensures shared)

pub returns-clause-region : goal.returns-clause-region
returns-clause-region c = λ e even shared.
    (not_told c.some_in.ensures).0 e (point_of_region c.box_of.result c.args.points.now c.args.list.now c.box_of.ensures even shared)
