use Rattle.std.proofs.Common.{map}
use Rattle.std.specs.Map.Iter.{deref}
use Rattle.state_copies.proofs.NamedValues.{AreNamed}
use Rattle.state_copies.proofs.values.copied_values.Given as goal

-- the values so far are listed
abbrev pub invariant-loop-definition : goal.invariant-loop-definition
invariant-loop-definition l = AreNamed (map deref l.yielded) l.list.items
