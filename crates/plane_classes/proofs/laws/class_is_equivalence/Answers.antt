use Rattle.plane_classes.proofs.ClassLemmas.{itself_in_class, one_class_back, one_class_joined}
use Rattle.plane_classes.proofs.laws.class_is_equivalence.Goals as goal

-- no wall lies between a place and itself
pub returns-clause-itself : goal.returns-clause-itself
returns-clause-itself c = itself_in_class c.args.list.now

-- cells are joined both ways
pub returns-clause-back : goal.returns-clause-back
returns-clause-back c = one_class_back c.args.list.now

-- one list of places goes on where another ends
pub returns-clause-on : goal.returns-clause-on
returns-clause-on c = λ p q r. one_class_joined c.args.list.now p q r
