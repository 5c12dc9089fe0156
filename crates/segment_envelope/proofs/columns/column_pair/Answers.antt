-- The answer is where the course of the segment is in the column, rounded down and up.
use Rattle.std.proofs.Common.{arith}
use Rattle.segment_envelope.proofs.Pairs.{course_pair}
use Rattle.segment_envelope.proofs.columns.column_pair.Goals as goal

-- a point of the column is near where it is nearer than 1 to that place
pub returns-clause-pair : goal.returns-clause-pair
returns-clause-pair c =
    let course = c.course_of-course.ensures in
    let rounded = c.place_rounded.ensures in
    (course_pair _ _ c.args.k _ _ course.ordered course.course course.on_grid (omega arith) (omega arith) rounded).0

-- the place is a grid point where the two roundings are one
pub returns-clause-next_to : goal.returns-clause-next_to
returns-clause-next_to c =
    let course = c.course_of-course.ensures in
    let rounded = c.place_rounded.ensures in
    (course_pair _ _ c.args.k _ _ course.ordered course.course course.on_grid (omega arith) (omega arith) rounded).1
