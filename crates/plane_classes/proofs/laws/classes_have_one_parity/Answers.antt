use Rattle.plane_classes.proofs.Counts.{one_parity}
use Rattle.plane_classes.proofs.laws.classes_have_one_parity.Goals as goal

-- places that touch one cell have the same segments above them, but for those that end between their columns
pub returns : goal.returns
returns c = one_parity c.args.border.now c.each_is_in_range.ensures.ordered c.requires.even
