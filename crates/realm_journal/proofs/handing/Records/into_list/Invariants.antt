use Rattle.std.proofs.Common.{◌≡◌, ◌++◌, length}
use Rattle.realm_journal.proofs.handing.Records.into_list.Given as goal

abbrev pub invariant-loop-list : goal.invariant-loop-list
invariant-loop-list l = record { all : l.list.items ++ l.records ≡ l.fn.self }

abbrev pub decreases-loop-list : goal.decreases-loop-list
decreases-loop-list l = length l.records
