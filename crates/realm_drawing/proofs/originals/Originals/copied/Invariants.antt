use Rattle.std.proofs.Common.{◌≡◌, map}
use Rattle.std.specs.Map.Iter.{deref_pair}
use Rattle.realm_drawing.proofs.ById.{listing}
use Rattle.realm_drawing.proofs.originals.Originals.copied.Given as goal

-- the copy has the originals so far
abbrev pub invariant-loop-id : goal.invariant-loop-id
invariant-loop-id l = l.copy ≡ listing (map deref_pair l.yielded)
