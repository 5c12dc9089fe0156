use Rattle.std.proofs.Common.{◌≡◌, Contains, take}
use Rattle.realm_drawing.specs.Shares.{Held, ListsAlso}
use Rattle.realm_drawing.proofs.shares.gained_of.Given as goal

abbrev pub invariant-loop-id : goal.invariant-loop-id
invariant-loop-id l = ListsAlso l.fn.list.items l.list.items
    (λ y. (Contains (take l.id-index l.owners) y.id × ¬ Held l.registry y) × (y.piece ≡ l.link))
