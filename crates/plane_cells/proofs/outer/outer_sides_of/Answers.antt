use Rattle.plane_cells.proofs.Outers.{own_sides, other_sides}
use Rattle.plane_cells.proofs.outer.outer_sides_of.Goals as goal

-- a segment of the border has the numbers of its two sides
pub returns-then-has : goal.returns-then-has
returns-then-has c =
    own_sides c.args.border.now c.args.numbers.now.sides.items c.number_of.result c.args.s.now c.index-classes.result.now c.requires.numbers
    c.number_of.ensures.within c.number_of.ensures.number c.index-classes.ensures

-- another one has one number
pub returns-else-has : goal.returns-else-has
returns-else-has c =
    other_sides c.args.border.now c.args.others.now c.args.numbers.now.others.items c.number_of-else-has.result c.args.s.now c.index.result.now
    c.requires.other_numbers c.number_of-else-has.ensures.within c.number_of-else-has.ensures.number c.index.ensures
