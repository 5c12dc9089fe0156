use Rattle.plane_cells.proofs.OfRealm.{of_realm}
use Rattle.class_borders.proofs.SomeOuter.{some_outer}
use Rattle.class_borders.proofs.laws.some_side_is_outer.Goals as goal

-- the lowest segment that begins at the first vertex has nothing below it
pub returns : goal.returns
returns c = some_outer c.args.border.now c.args.numbers.now
    (of_realm c.args.border.now c.args.border.now c.requires.noded (λ s there. there) c.requires.ascending c.each_is_on_grid.ensures)
    c.requires.numbers c.requires.some
