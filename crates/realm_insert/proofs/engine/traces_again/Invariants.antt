use Rattle.std.proofs.Common.{◌≡◌, take}
use Rattle.realm_insert.proofs.engine.traces_again.Given as goal

abbrev pub invariant-loop-kept : goal.invariant-loop-kept
invariant-loop-kept l = l.copies.items ≡ take l.kept-index l.list
