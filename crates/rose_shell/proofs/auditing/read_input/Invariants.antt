use Rattle.std.proofs.Common.{◌≡◌, false, ℕ, ◌+◌, List, [], length}
use Rattle.std.specs.Prelude.{◌≢◌}
use Rattle.outside_world.specs.GoesOn.{GoesOn}
use Rattle.realm_audit.specs.Verdicts.Hearing.{Exhausted}
use Rattle.rose_shell.specs.Lines.{whole_lines, part_from}
use Rattle.rose_shell.specs.Auditing.{TookThenGave}
use Rattle.rose_shell.specs.Certificates.{HasCome}
use Rattle.rose_shell.proofs.auditing.read_input.Given as goal

abbrev pub invariant-loop-n : goal.invariant-loop-n
invariant-loop-n g l = record {
  goes_on : GoesOn g.W.Outside l.fn.world l.world;
  intact : g.W.Outside.failed l.world ≡ false;
  no_file : g.W.Outside.disk_faults l.world ≡ g.W.Outside.disk_faults l.fn.world;
  heard : l.certificate.auditor ≢ Exhausted;
  bytes : List ℕ;
  come : HasCome l.certificate (whole_lines bytes) (part_from [] bytes);
  spent : length bytes + l.room ≡ l.budget;
  calls : g.W.Outside.tells l.world
      → TookThenGave (g.W.Outside.view l.fn.world) (g.W.Outside.view l.world) bytes [] [];
}

abbrev pub decreases-loop-n : goal.decreases-loop-n
decreases-loop-n g l = l.room
