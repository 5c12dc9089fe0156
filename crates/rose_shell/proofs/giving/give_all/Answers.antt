use Rattle.std.proofs.Common.{◌∙◌, arith}
use Rattle.std.proofs.lemmas.List.{take_rest}
use Rattle.rose_shell.proofs.Gifts.{gave_more}
use Rattle.rose_shell.proofs.giving.give_all.Goals as goal

-- the call has given the first bytes of those that were left
pub loop-rest-preserved : goal.loop-rest-preserved
loop-rest-preserved g c =
    let inv = c.loop-rest.invariant in
    let ens = c.in-Ok.ensures in
    record {
      goes_on = record {
        source_faults = omega (arith, inv.goes_on.source_faults, ens.others.0);
        sink_faults = omega (arith, inv.goes_on.sink_faults, ens.later);
        disk_faults = omega (arith, inv.goes_on.disk_faults, ens.others.1);
        tells = λ t. inv.goes_on.tells (ens.still t);
      };
      intact = ens.intact;
      no_file = ens.others.1 ∙ inv.no_file;
      told = λ t. gave_more (take_rest c.loop-rest.rest.now c.in-Ok.given) (inv.told (ens.still t)) (ens.told t);
    }
