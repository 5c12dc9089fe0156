use Rattle.std.proofs.Common.{take}
use Rattle.realm_insert.specs.Work.{ListsLinks}
use Rattle.realm_insert.proofs.removing.pieces_along.Given as goal

-- the links among the points so far are listed
abbrev pub invariant-loop-i : goal.invariant-loop-i
invariant-loop-i l = ListsLinks l.drawing (take l.i l.points) l.list.items
