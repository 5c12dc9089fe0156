use Rattle.realm_drawing.proofs.Scans.{all_listed}
use Rattle.realm_drawing.proofs.explicit.ExplicitPoints.in_box_of.Goals as goal

-- behind the last column all are listed
pub returns-clause-exact : goal.returns-clause-exact
returns-clause-exact c =
    let listed = rw c.in_default.is at c.in_ok-next.ensures in
    all_listed c.args.self.now c.args.s.now c.loop-list.column c.list_from.new.list.items c.loop-list.invariant.0 listed
