use Rattle.chain_laws.proofs.PointSets.{set_ascends, set_has, take_members}
use Rattle.realm_drawing.proofs.explicit.ExplicitPoints.take.Goals as goal

pub invariant_of-self : goal.invariant_of-self
invariant_of-self c = set_ascends c.remove.new.self c.remove.ensures.ordered

-- the set says whether it had the point
pub returns-clause-was : goal.returns-clause-was
returns-clause-was c = rw (c.remove.ensures.test, ← c.self.view_is) (set_has c.self.inside.set c.args.p.now)

pub returns-clause-members : goal.returns-clause-members
returns-clause-members c = λ q.
    rw (← c.self.view_is) (take_members c.self.inside.set c.remove.new.self c.args.p.now c.remove.ensures.updates q)

pub returns-clause-ascending : goal.returns-clause-ascending
returns-clause-ascending c = set_ascends c.remove.new.self c.remove.ensures.ordered
