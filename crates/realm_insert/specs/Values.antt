-- What every value is made of, and the geometry of a value by its name.
use Rattle.std.specs.Prelude.{◌≡◌, ℕ, List, All, Option, Some, None}
use Rattle.grid_base.specs.Drawing.{Drawing}
use Rattle.line_grammar.specs.Spellable.{IsName}
use Rattle.rose_values.specs.declared.geometry.Geometry.{Geometry}
use Rattle.value_table.specs.Table.{NamedValues, IsNamed, value_named}
use Rattle.value_table.specs.declared.value.Value.{Value}
use Rattle.value_geometry.specs.Geometry.{IsGeometryOf}
use Rattle.value_geometry.specs.Parts.{HasParts}
use Rattle.realm_insert.specs.State.{State}

-- the drawing has the parts of each value, and its name is one that a line may have
abbrev pub AreValuesOf : Drawing → NamedValues → Type 0
AreValuesOf d values = All (λ entry. IsName entry.0 × HasParts d entry.1.kind entry.1.parts) values

-- what is found is the geometry that the value with this name has in the drawing, and none where no value has the name
abbrev pub IsGeometryNamed : State → List ℕ → Option Geometry → Type 0
IsGeometryNamed s name None = IsNamed name s.values → ⊥
IsGeometryNamed s name (Some g) = (v : Value) × (value_named name s.values ≡ Some v) × IsGeometryOf s.drawing v g
