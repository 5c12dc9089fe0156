use Rattle.chain_laws.proofs.PointSets.{set_ascends, set_lacks, put_members}
use Rattle.realm_drawing.proofs.explicit.ExplicitPoints.put.Goals as goal

pub invariant_of-self-2 : goal.invariant_of-self-2
invariant_of-self-2 c = set_ascends c.insert.new.self c.insert.ensures.ordered

-- the set says whether the point is new to it
pub returns-clause-new : goal.returns-clause-new
returns-clause-new c = rw (c.in_ok-insert.ensures.added, ← c.self.view_is) (set_lacks c.self.inside.set c.args.p)

pub returns-clause-members : goal.returns-clause-members
returns-clause-members c = λ q.
    rw (← c.self.view_is) (put_members c.self.inside.set c.insert.new.self c.args.p c.in_ok-insert.ensures.updates q)

pub returns-clause-ascending : goal.returns-clause-ascending
returns-clause-ascending c = set_ascends c.insert.new.self c.insert.ensures.ordered
