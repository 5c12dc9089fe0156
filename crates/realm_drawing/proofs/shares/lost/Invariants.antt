use Rattle.std.proofs.Common.{◌≡◌, Contains, take}
use Rattle.grid_base.specs.Drawing.{HasLink}
use Rattle.realm_drawing.specs.Shares.{ListsAlso}
use Rattle.realm_drawing.proofs.shares.lost.Given as goal

abbrev pub invariant-loop-id : goal.invariant-loop-id
invariant-loop-id l = ListsAlso l.fn.list.items l.list.items
    (λ y. (Contains (take l.id-index l.owners) y.id × ¬ HasLink l.path l.piece) × (y.piece ≡ l.piece))
