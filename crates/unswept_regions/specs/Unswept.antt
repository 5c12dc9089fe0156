-- What it means that a region sweeps across no grid point, wherever the chains of its parts lead by now.
use Rattle.std.specs.Prelude.{◌↔◌, List, All, map}
use Rattle.grid_base.specs.Point.{GridPoint}
use Rattle.grid_base.specs.Segment.{GridSegment}
use Rattle.grid_base.specs.Crossing.{IsOn}
use Rattle.grid_base.specs.Drawing.{Drawing}
use Rattle.grid_base.specs.Odd.{Odd}
use Rattle.grid_base.specs.Plane.{as_place}
use Rattle.grid_base.specs.SideOf.{as_rational}
use Rattle.grid_base.specs.declared.original.Original.{Original}
use Rattle.hook_chain.specs.Chains.{AllLinks}
use Rattle.hook_chain.specs.Straight.{along}
use Rattle.rose_values.specs.declared.geometry.Geometry.{Geometry}
use Rattle.rose_values.specs.declared.geometry.Geometry.TheVariants.{P, L, R}
use Rattle.value_geometry.specs.Parts.{AreOriginals}
use Rattle.value_table.specs.Value.{ids_among}
use Rattle.value_table.specs.declared.value.Value.{Value}

-- no link of the chain holds p
abbrev pub IsOffChain : GridPoint → List GridPoint → Type 0
IsOffChain p chain = AllLinks (λ v w. IsOn (record { a = v; b = w }) p → ⊥) chain

-- an odd number of the segments is strictly above the grid point p
abbrev pub IsOddAt : List GridSegment → GridPoint → Type 0
IsOddAt segments p = Odd segments (as_place (as_rational p))

-- the border, and the parts as they were given, each straight from end to end, agree on whether p is odd
abbrev pub IsOddAsGiven : List Original → List GridSegment → GridPoint → Type 0
IsOddAsGiven parts border p = IsOddAt border p ↔ IsOddAt (map along parts) p

-- so it is at each grid point off the chains of the parts
abbrev pub IsUnsweptBorder : List Original → List GridSegment → Type 0
IsUnsweptBorder parts border =
    (p : GridPoint) → All (λ o. IsOffChain p o.chain) parts → IsOddAsGiven parts border p

-- the region that v is in d has swept across no grid point; points and lines have no border
abbrev pub IsUnsweptValue : Drawing → Value → Geometry → Type 0
IsUnsweptValue d v (P list) = Unit {0}
IsUnsweptValue d v (L list) = Unit {0}
IsUnsweptValue d v (R border) =
    (parts : List Original) → AreOriginals d (ids_among v.parts) parts → IsUnsweptBorder parts border
