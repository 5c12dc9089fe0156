use Rattle.r_faces.specs.Parted.{ArePlacesIn}
use Rattle.r_faces.proofs.parts.places_in.Given as goal

-- the places of the numbers so far
abbrev pub invariant-loop-k : goal.invariant-loop-k
invariant-loop-k l = ArePlacesIn l.keys l.numbers l.k l.places.items
