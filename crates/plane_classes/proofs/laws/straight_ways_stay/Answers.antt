use Rattle.plane_classes.proofs.Cuts.{one_class_by_way}
use Rattle.plane_classes.proofs.laws.straight_ways_stay.Goals as goal

-- the way is cut at each wall, and each part of it touches one cell
pub returns : goal.returns
returns c = one_class_by_way c.args.list.now
