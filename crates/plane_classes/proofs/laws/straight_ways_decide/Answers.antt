use Rattle.plane_classes.proofs.Cuts.{ways_lead, class_leads}
use Rattle.plane_classes.proofs.laws.straight_ways_decide.Goals as goal

-- each way stays in one class, and each two places that touch one cell have a way
pub returns : goal.returns
returns c = λ p q. (
  λ one. (one.0, class_leads c.args.list.now p one.0 q one.1),
  λ ways. ways_lead c.args.list.now p ways.0 q ways.1,
)
