use Rattle.std.proofs.Common.{List, length}
use Rattle.record_codec.specs.declared.entry.Entry.{Entry}
use Rattle.certificate_law.specs.Certificates.{entries_of}
use Rattle.rose_shell.proofs.GivenChanges.{Underway}
use Rattle.rose_shell.proofs.certifying.give_changes.Given as goal

-- the changes of the records so far were made again, and their items given
abbrev pub invariant-loop-record : goal.invariant-loop-record
invariant-loop-record g l = record {
  so_far : (before : List Entry) × Underway g.W.Outside l.fn.world l.world l.fn.engine.state (entries_of l.fn.records) before
      (entries_of l.records) l.engine;
}

abbrev pub decreases-loop-record : goal.decreases-loop-record
decreases-loop-record g l = length l.records
