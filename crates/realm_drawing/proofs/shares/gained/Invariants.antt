use Rattle.std.proofs.Common.{Contains}
use Rattle.realm_drawing.specs.Shares.{Held, ListsAlso}
use Rattle.realm_drawing.proofs.LinkShares.{IsAmong}
use Rattle.realm_drawing.proofs.shares.gained.Given as goal

abbrev pub invariant-loop-i : goal.invariant-loop-i
invariant-loop-i l = ListsAlso l.fn.list.items l.list.items
    (λ y. (Contains l.owners y.id × ¬ Held l.registry y) × IsAmong l.path l.i y.piece)
