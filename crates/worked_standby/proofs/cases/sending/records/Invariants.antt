use Rattle.std.specs.Prelude.{All}
use Rattle.record_codec.specs.Fitting.{IsRecord}
use Rattle.worked_standby.proofs.cases.sending.records.Given as goal

-- each record so far has a text
abbrev pub invariant-loop-name : goal.invariant-loop-name
invariant-loop-name l = All IsRecord l.records.items
