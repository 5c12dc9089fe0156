use Rattle.std.proofs.Common.{take}
use Rattle.grid_base.specs.Segment.{BoxesMeet}
use Rattle.realm_insert.proofs.ListedPieces.{ListsOf}
use Rattle.realm_insert.proofs.searching.pieces_met.Given as goal

-- the pieces so far whose boxes are met are listed
abbrev pub invariant-loop-key : goal.invariant-loop-key
invariant-loop-key l = ListsOf (BoxesMeet l.near) l.drawing (take l.key-index l.keys) l.list.items
