use Rattle.std.proofs.Common.{◌-◌, ◌<◌, ◌∙◌, sym, arith}
use Rattle.component_registry.proofs.EndCounts.{others_written, no_zero_written, others_found, no_zero_gone}
use Rattle.component_registry.proofs.ends.lower.Goals as goal

-- one count was written
pub returns-else-uses-eq0-clause-others : goal.returns-else-uses-eq0-clause-others
returns-else-uses-eq0-clause-others c =
    let fewer = c.in-Some.uses.now - 1 in
    let there = sym c.in-Some.ensures.value in
    others_written c.args.ends.now (c.get_mut.follows.lender fewer) c.args.p.now _ fewer there (c.get_mut.follows.holds fewer)

-- which isn't 0
pub returns-else-uses-eq0-clause-no_zero : goal.returns-else-uses-eq0-clause-no_zero
returns-else-uses-eq0-clause-no_zero c =
    let fewer = c.in-Some.uses.now - 1 in
    let there = sym c.in-Some.ensures.value in
    let left : 0 < fewer = grind (arith, c.if-uses-eq0.false) in
    no_zero_written c.args.ends.now (c.get_mut.follows.lender fewer) c.args.p.now _ fewer there (c.get_mut.follows.holds fewer) left

-- or it was then taken out
pub returns-then-uses-eq0-clause-others : goal.returns-then-uses-eq0-clause-others
returns-then-uses-eq0-clause-others c = λ q other.
    let p = c.args.p.now in
    let fewer = c.in-Some.uses.now - 1 in
    let mid = c.get_mut.follows.lender fewer in
    let there = sym c.in-Some.ensures.value in
    let written = others_written c.args.ends.now mid p _ fewer there (c.get_mut.follows.holds fewer) in
    others_found mid c.remove.new.self p _ c.remove.ensures.updates q other ∙ written q other

pub returns-then-uses-eq0-clause-no_zero : goal.returns-then-uses-eq0-clause-no_zero
returns-then-uses-eq0-clause-no_zero c =
    let p = c.args.p.now in
    let fewer = c.in-Some.uses.now - 1 in
    let mid = c.get_mut.follows.lender fewer in
    let there = sym c.in-Some.ensures.value in
    let written = others_written c.args.ends.now mid p _ fewer there (c.get_mut.follows.holds fewer) in
    no_zero_gone c.args.ends.now mid c.remove.new.self p written c.remove.ensures.updates
