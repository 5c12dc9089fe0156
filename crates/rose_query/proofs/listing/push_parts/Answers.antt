use Rattle.std.proofs.Common.{subst, arith}
use Rattle.std.proofs.lemmas.Grind.{common_steps}
use Rattle.std.proofs.lemmas.List.Elements.{All-more}
use Rattle.rose_operators.specs.Results.{IsAscending}
use Rattle.rose_query.proofs.listing.push_parts.Goals as goal

-- one part more is written, which ascends
pub loop-part-preserved : goal.loop-part-preserved
loop-part-preserved c =
    let written = c.loop-part.invariant.written in record {
      written = grind (arith, common_steps, written);
      ascending = All-more IsAscending c.args.parts.now c.loop-part.part-index c.part-item.result c.loop-part-test.true c.loop-part.invariant.ascending
          (subst IsAscending c.part-item.is c.in_ok-push_value.ensures.ascending);
    }
