use Rattle.std.proofs.Common.{take}
use Rattle.grid_base.specs.Drawing.{HasLink}
use Rattle.realm_drawing.proofs.shares.has_link.Given as goal

abbrev pub invariant-loop-i : goal.invariant-loop-i
invariant-loop-i l = ¬ HasLink (take l.i l.path) l.piece
