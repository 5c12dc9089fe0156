-- Tables of values that a snapshot may keep.
use Rattle.std.specs.Prelude.{ℕ, ◌<◌, List, map, All, AllPairs}
use Rattle.grid_base.specs.Point.{IsBefore}
use Rattle.grid_base.specs.Drawing.{Drawing}
use Rattle.line_grammar.specs.Spellable.{IsName}
use Rattle.record_codec.specs.declared.snapshot.Named.{Named}
use Rattle.record_codec.specs.declared.snapshot.KeptValue.{KeptValue}
use Rattle.record_codec.specs.declared.snapshot.KeptParts.{KeptParts}
use Rattle.record_codec.specs.declared.snapshot.KeptParts.TheVariants as kept
use Rattle.value_geometry.specs.Parts.{HasParts}
use Rattle.value_table.specs.Table.{NamedValues, HasDistinctNames}
use Rattle.value_table.specs.declared.value.Value.{Value}
use Rattle.value_table.specs.declared.value.Parts.{Parts}
use Rattle.value_table.specs.declared.value.Parts.TheVariants.{Points, Ids}

-- the parts that are kept, as a table has them
abbrev pub parts_of : KeptParts → Parts
parts_of (kept.Points points) = Points points
parts_of (kept.Ids ids) = Ids ids

-- the value that is kept, as a table has it
abbrev pub value_of : KeptValue → Value
value_of v = record { kind = v.kind; parts = parts_of v.parts }

-- the parts of a table, as they are kept
abbrev pub kept_parts : Parts → KeptParts
kept_parts (Points points) = kept.Points points
kept_parts (Ids ids) = kept.Ids ids

-- a name with its value
abbrev pub entry_of : Named → List ℕ × Value
entry_of n = (n.name, value_of n.value)

-- the values by name, in their order
abbrev pub entries_of : List Named → NamedValues
entries_of values = map entry_of values

-- the points or ids ascend, none of them twice
abbrev pub AreAscending : Parts → Type 0
AreAscending (Points points) = AllPairs IsBefore points
AreAscending (Ids ids) = AllPairs (λ m n. m < n) ids

-- the value has a name of a line, and the drawing has its parts
abbrev pub Fits : Drawing → List ℕ × Value → Type 0
Fits d entry = IsName entry.0 × HasParts d entry.1.kind entry.1.parts

-- so it is with each value, the parts of each ascend, and no two have one name
pub record AreTabled (d : Drawing) (values : NamedValues) : Type 0 where
  pub distinct : HasDistinctNames values
  pub fit : All (Fits d) values
  pub ascend : All (λ entry. AreAscending entry.1.parts) values
