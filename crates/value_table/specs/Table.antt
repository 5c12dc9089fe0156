-- Tables of values by name.
use Rattle.std.specs.Prelude.{◌≢◌, ℕ, List, Option, IsSome, AllPairs, count_by, filter, not}
use Rattle.std.specs.Map.{lookup, values_of, keys_of}
use Rattle.std.specs.Str.{bytes_eq}
use Rattle.grid_base.specs.Point.{GridPoint}
use Rattle.value_table.specs.declared.value.Value.{Value}
use Rattle.value_table.specs.Value.{names_id, names_point}

-- names with their values, in the order of definition
abbrev pub NamedValues : Type 0
NamedValues = List (List ℕ × Value)

-- the value with this name, and none where the name isn't there
abbrev pub value_named : List ℕ → NamedValues → Option Value
value_named name table = lookup (bytes_eq name) table

-- the name is there
abbrev pub IsNamed : List ℕ → NamedValues → Type 0
IsNamed name table = IsSome (value_named name table)

-- the table without the value with this name, the others in their order
abbrev pub without : List ℕ → NamedValues → NamedValues
without name table = filter (λ entry. not (bytes_eq name entry.0)) table

-- no two values have one name
abbrev pub HasDistinctNames : NamedValues → Type 0
HasDistinctNames table = AllPairs (λ name other. name ≢ other) (keys_of table)

-- how many values name the id among their parts
abbrev pub users_of : NamedValues → ℕ → ℕ
users_of table id = count_by (names_id id) (values_of table)

-- how many values name the point p among their parts
abbrev pub users_of_point : NamedValues → GridPoint → ℕ
users_of_point table p = count_by (names_point p) (values_of table)
