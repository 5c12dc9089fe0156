use Rattle.std.proofs.Common.{take, drop}
use Rattle.rose_shell.proofs.GivenChanges.{Underway}
use Rattle.rose_shell.proofs.certifying.give_entries.Given as goal

-- the changes of the entries so far were made again, and their items given
abbrev pub invariant-loop-entry : goal.invariant-loop-entry
invariant-loop-entry g l = record {
  so_far : Underway g.W.Outside l.fn.world l.world l.fn.engine.state l.entries (take l.entry-index l.entries)
      (drop l.entry-index l.entries) l.engine;
}
