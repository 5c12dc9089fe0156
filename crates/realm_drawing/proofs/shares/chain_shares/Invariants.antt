use Rattle.std.proofs.Common.{◌≡◌}
use Rattle.realm_drawing.specs.Shares.{ListsAlso}
use Rattle.realm_drawing.proofs.LinkShares.{IsAmong}
use Rattle.realm_drawing.proofs.shares.chain_shares.Given as goal

abbrev pub invariant-loop-i : goal.invariant-loop-i
invariant-loop-i l = ListsAlso l.fn.list.items l.list.items (λ y. (y.id ≡ l.id) × IsAmong l.points l.i y.piece)
