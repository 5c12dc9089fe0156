use Rattle.std.proofs.Common.{take}
use Rattle.record_codec.specs.Entries.{HaveRoom}
use Rattle.record_codec.proofs.entries.room_for_all.Given as goal

abbrev pub invariant-loop-entry : goal.invariant-loop-entry
invariant-loop-entry l = HaveRoom (take l.entry-index l.entries) l.room
