use Rattle.rose_predicates.proofs.BoxedValues.{points_in_region, points_on_lines}
use Rattle.rose_predicates.proofs.Truths.{not_told}
use Rattle.rose_predicates.proofs.of_boxes.one_is_off.Goals as goal

-- what is on a segment, or in a region, is in the box
pub returns-clause-lines : goal.returns-clause-lines
returns-clause-lines c = λ e inside.
    (not_told c.all_in.ensures).0 e (points_on_lines c.box_of.result c.args.points.now c.args.list.now c.box_of.ensures inside)

pub returns-clause-region : goal.returns-clause-region
returns-clause-region c = λ e even inside.
    (not_told c.all_in.ensures).0 e (points_in_region c.box_of.result c.args.points.now c.args.list.now c.box_of.ensures even inside)
