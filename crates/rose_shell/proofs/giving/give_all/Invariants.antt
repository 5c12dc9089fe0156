use Rattle.std.proofs.Common.{◌≡◌, false, length}
use Rattle.outside_world.specs.GoesOn.{GoesOn}
use Rattle.rose_shell.specs.Giving.{GaveSome}
use Rattle.rose_shell.proofs.giving.give_all.Given as goal

abbrev pub invariant-loop-rest : goal.invariant-loop-rest
invariant-loop-rest g l = record {
  goes_on : GoesOn g.W.Outside l.fn.world l.world;
  intact : g.W.Outside.failed l.world ≡ false;
  no_file : g.W.Outside.disk_faults l.world ≡ g.W.Outside.disk_faults l.fn.world;
  told : g.W.Outside.tells l.world → GaveSome (g.W.Outside.view l.fn.world) (g.W.Outside.view l.world) l.bytes l.rest;
}

abbrev pub decreases-loop-rest : goal.decreases-loop-rest
decreases-loop-rest g l = length l.rest
