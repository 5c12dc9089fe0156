use Rattle.std.proofs.Common.{◌+◌, arith, rules}
use Rattle.std.specs.HashMap.Entry.{map_with_value}
use Rattle.component_registry.proofs.EndCounts.{others_found, no_zero_put}
use Rattle.component_registry.proofs.ends.raise.Goals as goal

-- one count was written through the entry
pub returns-clause-others : goal.returns-clause-others
returns-clause-others c =
    let more = c.or_insert.result.now + 1 in
    let others = others_found c.args.ends.now (map_with_value c.in-Ok.entry more) c.args.p _ (c.in-Ok.ensures.update.0 more) in
    search (rules, others)

-- which isn't 0
pub returns-clause-no_zero : goal.returns-clause-no_zero
returns-clause-no_zero c =
    let more = c.or_insert.result.now + 1 in
    let put = no_zero_put c.args.ends.now (map_with_value c.in-Ok.entry more) c.args.p more (c.in-Ok.ensures.update.0 more) (omega arith) in
    search (rules, put)
