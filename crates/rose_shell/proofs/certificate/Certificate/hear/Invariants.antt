use Rattle.std.proofs.Common.{◌≡◌, ℕ, List, ◌++◌, length}
use Rattle.std.specs.Prelude.{◌≢◌}
use Rattle.realm_audit.specs.Verdicts.Hearing.{Exhausted}
use Rattle.rose_shell.specs.Lines.{lines_from, part_from}
use Rattle.rose_shell.specs.Certificates.{HasCome}
use Rattle.rose_shell.proofs.certificate.Certificate.hear.Given as goal

abbrev pub invariant-loop-end : goal.invariant-loop-end
invariant-loop-end l = record {
  heard : l.self.auditor ≢ Exhausted;
  done : List ℕ;
  split : l.bytes ≡ done ++ l.rest;
  come : (texts : List (List ℕ)) (part : List ℕ) → HasCome l.fn.self texts part
      → HasCome l.self (texts ++ lines_from part done) (part_from part done);
}

abbrev pub decreases-loop-end : goal.decreases-loop-end
decreases-loop-end l = length l.rest
