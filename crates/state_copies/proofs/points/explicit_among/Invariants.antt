use Rattle.state_copies.proofs.Listing.{AreExplicit}
use Rattle.state_copies.proofs.points.explicit_among.Given as goal

-- the explicit ones of the points so far are listed
abbrev pub invariant-loop-p : goal.invariant-loop-p
invariant-loop-p l = AreExplicit l.drawing.drawing.points l.points l.p-index l.list.items
