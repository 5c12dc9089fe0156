use Rattle.std.proofs.Common.{◌≡◌, ◌++◌}
use Rattle.store_certificate.proofs.NewOriginals.{told_below}
use Rattle.store_certificate.proofs.telling.push_segments.Given as goal

-- the originals with the ids so far are told
abbrev pub invariant-loop-id : goal.invariant-loop-id
invariant-loop-id l = l.lines ≡ l.fn.lines ++ told_below l.first l.id l.drawing.drawing.originals
