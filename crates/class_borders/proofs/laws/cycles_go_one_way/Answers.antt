use Rattle.plane_cells.proofs.OfRealm.{of_realm}
use Rattle.class_borders.proofs.OneWays.{goes_one_way}
use Rattle.class_borders.proofs.laws.cycles_go_one_way.Goals as goal

-- at each vertex of the cycle one link of the class comes in and one goes out
pub returns : goal.returns
returns c = λ n goes. goes_one_way c.args.border.now c.args.numbers.now n c.args.cycle.now
    (of_realm c.args.border.now c.args.border.now c.requires.noded (λ s there. there) c.requires.ascending c.each_is_on_grid.ensures)
    c.requires.numbers c.requires.cycle goes
