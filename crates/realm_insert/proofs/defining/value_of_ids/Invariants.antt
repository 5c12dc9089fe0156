use Rattle.std.proofs.Common.{◌≡◌}
use Rattle.realm_insert.specs.Changes.{ids_from}
use Rattle.realm_insert.proofs.defining.value_of_ids.Given as goal

-- the ids so far are listed
abbrev pub invariant-loop-k : goal.invariant-loop-k
invariant-loop-k l = l.list.items ≡ ids_from l.first l.k
