use Rattle.state_copies.proofs.Listing.{AreFirst}
use Rattle.state_copies.proofs.originals.copied_originals.Given as goal

-- the originals with the ids so far are listed
abbrev pub invariant-loop-id : goal.invariant-loop-id
invariant-loop-id l = AreFirst l.id-index l.drawing.drawing.originals l.list.items
