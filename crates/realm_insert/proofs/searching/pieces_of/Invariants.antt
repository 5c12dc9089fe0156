use Rattle.std.proofs.Common.{take}
use Rattle.realm_insert.specs.Clashes.{HasKeyAmong}
use Rattle.realm_insert.proofs.ListedPieces.{ListsOf}
use Rattle.realm_insert.proofs.searching.pieces_of.Given as goal

-- the pieces with the keys so far are listed
abbrev pub invariant-loop-key : goal.invariant-loop-key
invariant-loop-key l = ListsOf (HasKeyAmong l.drawing l.keys) l.drawing (take l.key-index l.keys) l.list.items
