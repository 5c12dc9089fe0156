use Rattle.hook_chain.proofs.HookParts.{joined}
use Rattle.hook_chain.proofs.hulls.join.Goals as goal

-- no point is left, so the list holds all
pub returns : goal.returns
returns c = joined c.args.to.items c.pop.new.self.items c.args.from.items c.loop-p.to.items c.loop-p.from.items c.pop.result c.args.to.len
    c.pop.new.self.len
    c.loop-p.from.len c.pop.ensures.items c.pop.new.self.ok.0 c.pop.ensures.cases c.loop-p.from.ok.0 c.in_default.ensures.cases.0
    c.loop-p.invariant
