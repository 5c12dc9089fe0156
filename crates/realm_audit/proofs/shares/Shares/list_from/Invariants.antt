use Rattle.std.proofs.Common.{map}
use Rattle.std.specs.Map.Iter.{deref}
use Rattle.realm_audit.specs.Windows.{ListsUpTo}
use Rattle.realm_audit.proofs.Behind.{last_or}
use Rattle.realm_audit.proofs.Searches.{IsListedWhere}
use Rattle.realm_audit.proofs.shares.Shares.list_from.Given as goal

-- the pieces up to the share before that reach the bounds are listed, and so is its piece
abbrev pub invariant-loop-share : goal.invariant-loop-share
invariant-loop-share l =
    ListsUpTo l.self l.bounds (last_or l.at (map deref l.yielded)) l.list.items × IsListedWhere l.bounds l.list.items l.before
