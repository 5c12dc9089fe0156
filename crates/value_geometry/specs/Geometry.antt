-- What the values of a drawing are made of, by the chains that stand for their parts at present.
use Rattle.std.specs.Prelude.{◌≡◌, ◌↔◌, ◌<◌, ◌%◌, ℕ, List, length, Any, AllPairs, Contains}
use Rattle.grid_base.specs.Point.{IsBefore}
use Rattle.grid_base.specs.Segment.{GridSegment}
use Rattle.grid_base.specs.Drawing.{Drawing, HasLink}
use Rattle.grid_base.specs.declared.kinds.Kind.TheVariants.{Points, Lines, Regions}
use Rattle.rose_values.specs.declared.geometry.Geometry.{Geometry}
use Rattle.rose_values.specs.declared.geometry.Geometry.TheVariants.{P, L, R}
use Rattle.value_table.specs.Value.{ids_among, points_among}
use Rattle.value_table.specs.declared.value.Value.{Value}

-- s is a piece on the chain of the original with this id
abbrev pub IsOnChainOf : Drawing → GridSegment → ℕ → Type 0
IsOnChainOf d s id = IsBefore s.a s.b × Any (λ o. (o.id ≡ id) × HasLink o.chain s) d.originals

-- those are the ids among the given ones on whose chains s is, ascending
pub record AreThoseWith (d : Drawing) (s : GridSegment) (ids those : List ℕ) : Type 0 where
  pub exact : (id : ℕ) → Contains those id ↔ (Contains ids id × IsOnChainOf d s id)
  pub ascending : AllPairs (λ m n. m < n) those

-- s is on the chains of an odd number of these ids
pub record IsOnOddly (d : Drawing) (ids : List ℕ) (s : GridSegment) : Type 0 where
  pub those : List ℕ
  pub are_those : AreThoseWith d s ids those
  pub odd : length those % 2 ≡ 1

-- The geometry of v in d: the parts of points, the pieces on at least one chain of the parts of lines, and those on an
-- odd number of chains of the parts of a region.
abbrev pub IsGeometryOf : Drawing → Value → Geometry → Type 0
IsGeometryOf d v (P list) = (v.kind ≡ Points) × (list ≡ points_among v.parts)
IsGeometryOf d v (L list) = (v.kind ≡ Lines)
    × ((s : GridSegment) → Contains list s ↔ Any (IsOnChainOf d s) (ids_among v.parts))
IsGeometryOf d v (R border) = (v.kind ≡ Regions)
    × ((s : GridSegment) → Contains border s ↔ IsOnOddly d (ids_among v.parts) s)
