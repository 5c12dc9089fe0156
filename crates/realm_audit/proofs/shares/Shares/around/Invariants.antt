use Rattle.std.proofs.Common.{length}
use Rattle.realm_audit.proofs.Behind.{shares_behind}
use Rattle.realm_audit.specs.Windows.{ListsUpTo}
use Rattle.realm_audit.proofs.shares.Shares.around.Given as goal

-- the pieces up to the place that reach the bounds are listed
abbrev pub invariant-loop-list : goal.invariant-loop-list
invariant-loop-list l = ListsUpTo l.self l.bounds l.at l.list.items

-- fewer shares are left behind it each time
abbrev pub decreases-loop-list : goal.decreases-loop-list
decreases-loop-list l = length (shares_behind l.self l.at)
