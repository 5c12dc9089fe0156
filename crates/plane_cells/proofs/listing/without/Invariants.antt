use Rattle.std.proofs.Common.{Contains, take}
use Rattle.plane_cells.proofs.Kept.{AreKept}
use Rattle.plane_cells.proofs.listing.without.Given as goal

-- the segments that the other list hasn't, as far as the loop has come
abbrev pub invariant-loop-s : goal.invariant-loop-s
invariant-loop-s l = AreKept (λ s. ¬ Contains l.other s) (take l.s-index l.list) l.kept.items
