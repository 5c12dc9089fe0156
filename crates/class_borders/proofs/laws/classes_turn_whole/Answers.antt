use Rattle.plane_cells.proofs.OfRealm.{of_realm}
use Rattle.class_borders.proofs.ClassTurns.{turns_whole}
use Rattle.class_borders.proofs.laws.classes_turn_whole.Goals as goal

-- the border is swept, and round each vertex the class is entered as often as it is left
pub returns : goal.returns
returns c = λ n v. turns_whole c.args.border.now c.args.numbers.now n v
    (of_realm c.args.border.now c.args.border.now c.requires.noded (λ s there. there) c.requires.ascending c.each_is_on_grid.ensures)
    c.requires.numbers
