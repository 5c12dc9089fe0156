use Rattle.std.proofs.Common.{◌≡◌, take}
use Rattle.standby_core.proofs.copies.copied_entries.Given as goal

-- so many are copied
abbrev pub invariant-loop-entry : goal.invariant-loop-entry
invariant-loop-entry l = l.copies ≡ take l.entry-index l.list
