use Rattle.std.proofs.Common.{take}
use Rattle.grid_base.specs.Crossing.{Inside}
use Rattle.realm_insert.proofs.ListedPieces.{ListsOf}
use Rattle.realm_insert.proofs.searching.pieces_among.Given as goal

-- the pieces so far that have the point inside are listed
abbrev pub invariant-loop-key : goal.invariant-loop-key
invariant-loop-key l = ListsOf (Inside l.p) l.drawing (take l.key-index l.keys) l.list.items
