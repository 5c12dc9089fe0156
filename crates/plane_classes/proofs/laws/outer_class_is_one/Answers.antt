use Rattle.plane_classes.proofs.Outer.{outside, outside_is_left, outer_is_one, outer_goes_on}
use Rattle.plane_classes.proofs.laws.outer_class_is_one.Goals as goal

-- the place (-1, 0) lies left of the grid
pub returns-clause-some : goal.returns-clause-some
returns-clause-some c = (outside, outside_is_left c.args.list.now)

-- between two places left of all the straight way is left of all
pub returns-clause-one : goal.returns-clause-one
returns-clause-one c = outer_is_one c.args.list.now

pub returns-clause-on : goal.returns-clause-on
returns-clause-on c = outer_goes_on c.args.list.now
