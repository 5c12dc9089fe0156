use Rattle.std.proofs.Common.{take}
use Rattle.realm_insert.specs.Indexing.{AddsEntries}
use Rattle.realm_insert.proofs.indexing.put_in_index.Given as goal

-- the pieces so far are put in
abbrev pub invariant-loop-drawn : goal.invariant-loop-drawn
invariant-loop-drawn l = AddsEntries (take l.drawn-index l.list) l.fn.index l.index
