use Rattle.std.proofs.Common.{subst, arith}
use Rattle.std.proofs.lemmas.Grind.{common_steps}
use Rattle.std.proofs.lemmas.List.Elements.{All-more}
use Rattle.rose_operators.specs.Results.{IsAscending}
use Rattle.rose_sets.specs.declared.group.Group.{Group}
use Rattle.rose_query.proofs.listing.push_groups.Goals as goal

-- one group more is written, which ascends
pub loop-group-preserved : goal.loop-group-preserved
loop-group-preserved c =
    let written = c.loop-group.invariant.written in record {
      written = grind (arith, common_steps, written);
      ascending = All-more (λ (group : Group). IsAscending group.g) c.args.groups.now c.loop-group.group-index c.group-item.result c.loop-group-test.true c.loop-group.invariant.ascending
          (subst (λ (group : Group). IsAscending group.g) c.group-item.is c.in_ok-push_group.ensures.ascending);
    }
