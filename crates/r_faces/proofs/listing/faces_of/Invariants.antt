use Rattle.std.proofs.Common.{take}
use Rattle.std.specs.List.{AllZip}
use Rattle.r_faces.specs.Rims.{IsWithin}
use Rattle.r_faces.proofs.listing.faces_of.Given as goal

-- the faces of the rims so far
abbrev pub invariant-loop-k : goal.invariant-loop-k
invariant-loop-k l = AllZip (λ rim f. IsWithin rim.items f) (take l.k l.rims) l.faces.items
