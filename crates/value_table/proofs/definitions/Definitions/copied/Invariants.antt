use Rattle.std.proofs.Common.{◌≡◌, map}
use Rattle.std.specs.Map.Iter.{deref}
use Rattle.value_table.proofs.definitions.Definitions.copied.Given as goal

-- the copy has the definitions so far
abbrev pub invariant-loop-definition : goal.invariant-loop-definition
invariant-loop-definition l = l.copy ≡ map deref l.yielded
