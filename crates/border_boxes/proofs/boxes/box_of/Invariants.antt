use Rattle.std.proofs.Common.{take}
use Rattle.border_boxes.specs.Boxes.{IsBoxOf}
use Rattle.border_boxes.proofs.boxes.box_of.Given as goal

-- the box of the segments so far
abbrev pub invariant-loop-s : goal.invariant-loop-s
invariant-loop-s l = IsBoxOf l.least (take l.s-index l.border)
