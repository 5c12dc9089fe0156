use Rattle.std.proofs.Common.{take}
use Rattle.std.specs.List.{AllByRecursion}
use Rattle.record_codec.specs.Fitting.{IsChange}
use Rattle.record_codec.proofs.recording.are_changes.Given as goal

abbrev pub invariant-loop-entry : goal.invariant-loop-entry
invariant-loop-entry l = AllByRecursion (λ e. IsChange e.line) (take l.entry-index l.entries)
