use Rattle.std.proofs.Common.{List, take}
use Rattle.grid_base.specs.declared.original.Original.{Original}
use Rattle.value_geometry.specs.Links.{AreLinksOf, AreChainsOf}
use Rattle.value_geometry.specs.Parts.{AreOriginals}
use Rattle.value_geometry.proofs.links.links_of_parts.Given as goal

-- the links of the first parts are there, and the walk goes on along chains, wherever it is
abbrev pub invariant-loop-id : goal.invariant-loop-id
invariant-loop-id l = ((parts : List Original) → AreOriginals l.drawing.drawing l.ids parts
    → AreLinksOf l.drawing.drawing (take l.id-index parts) l.list.items) × AreChainsOf l.drawing.drawing l.walk
