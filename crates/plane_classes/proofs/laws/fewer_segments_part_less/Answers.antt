use Rattle.plane_classes.proofs.FewerSegments.{class_of_part}
use Rattle.plane_classes.proofs.laws.fewer_segments_part_less.Goals as goal

-- a way that meets no segment meets none of fewer
pub returns : goal.returns
returns c = λ p q one. class_of_part c.args.fewer.now c.args.list.now p q c.requires one
