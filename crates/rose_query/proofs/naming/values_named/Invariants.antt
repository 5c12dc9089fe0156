use Rattle.std.proofs.Common.{take}
use Rattle.rose_query.specs.Sets.{ArePresentValues}
use Rattle.rose_query.proofs.naming.values_named.Given as goal

-- the values of the names so far
abbrev pub invariant-loop-name : goal.invariant-loop-name
invariant-loop-name l = ArePresentValues l.state.state (take l.name-index l.names) l.list.items
