use Rattle.plane_cells.proofs.OfRealm.{of_realm}
use Rattle.class_borders.proofs.EvenRims.{rim_is_even}
use Rattle.class_borders.proofs.RimPlaces.{rim_odd}
use Rattle.class_borders.proofs.laws.rims_are_even.Goals as goal

-- as many links of the class begin at each point as end there
pub returns-clause-even : goal.returns-clause-even
returns-clause-even c = λ n. rim_is_even c.args.border.now c.args.numbers.now n
    (of_realm c.args.border.now c.args.border.now c.requires.noded (λ s there. there) c.requires.ascending c.each_is_on_grid.ensures)
    c.requires.numbers

-- and in a column the parity changes where the class does
pub returns-clause-odd : goal.returns-clause-odd
returns-clause-odd c = λ n i d q inner lies. rim_odd c.args.border.now c.args.numbers.now n i d q
    (of_realm c.args.border.now c.args.border.now c.requires.noded (λ s there. there) c.requires.ascending c.each_is_on_grid.ensures)
    c.requires.numbers inner lies
