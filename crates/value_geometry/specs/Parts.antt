-- The parts of a value in a drawing: explicit points, or originals.
use Rattle.std.specs.Prelude.{◌≡◌, ℕ, List, All, Contains, map}
use Rattle.grid_base.specs.Border.{IsEvenBorder}
use Rattle.grid_base.specs.Drawing.{Drawing}
use Rattle.grid_base.specs.declared.kinds.Kind.{Kind}
use Rattle.grid_base.specs.declared.kinds.Kind.TheVariants.{Points as OfPoints, Lines as OfLines, Regions as OfRegions}
use Rattle.grid_base.specs.declared.original.Original.{Original}
use Rattle.hook_chain.specs.Straight.{along}
use Rattle.value_table.specs.declared.value.Parts.{Parts}
use Rattle.value_table.specs.declared.value.Parts.TheVariants.{Points, Ids}

-- the parts are the originals of d with these ids, in this order
pub record AreOriginals (d : Drawing) (ids : List ℕ) (parts : List Original) : Type 0 where
  pub there : All (Contains d.originals) parts
  pub by_id : map (λ (o : Original). o.id) parts ≡ ids

-- each id is that of an original of d
abbrev pub HasOriginals : Drawing → List ℕ → Type 0
HasOriginals d ids = (parts : List Original) × AreOriginals d ids parts

-- and these originals, as they were given, are an even border at each point
abbrev pub HasEvenOriginals : Drawing → List ℕ → Type 0
HasEvenOriginals d ids = (parts : List Original) × AreOriginals d ids parts × IsEvenBorder (map along parts)

-- d has the parts of a value of this kind
abbrev pub HasParts : Drawing → Kind → Parts → Type 0
HasParts d OfPoints (Points list) = All (Contains d.points) list
HasParts d OfPoints (Ids ids) = ⊥
HasParts d OfLines (Points list) = ⊥
HasParts d OfLines (Ids ids) = HasOriginals d ids
HasParts d OfRegions (Points list) = ⊥
HasParts d OfRegions (Ids ids) = HasEvenOriginals d ids
