-- How a table is kept: its definitions under numbers, and beside them how many values name each id and each point.
-- No public clause cites this file.
use Rattle.std.specs.Prelude.{◌≡◌, ◌<◌, ◌↔◌, ℕ, List, All, Some, String}
use Rattle.std.specs.Option.{option_map}
use Rattle.std.specs.Ordering.{nat_cmp}
use Rattle.std.specs.HashMap.{HashMap, get_by_text}
use Rattle.std.specs.BTreeMap.{BTreeMap, IsOrdered, get, keys, values}
use Rattle.grid_base.specs.Point.{GridPoint, point_cmp}
use Rattle.value_table.specs.declared.value.Value.{Value}
use Rattle.value_table.specs.Table.{NamedValues, users_of, users_of_point}
use Rattle.value_table.specs.Users.{users_in}

-- the definitions, in the order of their numbers, which is that of definition
abbrev pub listed : BTreeMap ℕ (List ℕ × Value) → NamedValues
listed by_number = values by_number

-- a name has a number just where the number has the name, and the next number is above all
pub record IsNumbered {Y R : Type 0} (numbers : HashMap (String Y) ℕ R) (by_number : BTreeMap ℕ (List ℕ × Value))
    (next : ℕ) : Type 0 where
  pub same_pairs : (name : List ℕ) (n : ℕ) → (get_by_text numbers name ≡ Some n)
      ↔ (option_map (λ d. d.0) (get nat_cmp by_number n) ≡ Some name)
  pub ascending : IsOrdered nat_cmp by_number
  pub next_above : All (λ n. n < next) (keys by_number)

-- the counts are those of the values
pub record CountsUses (table : NamedValues) (ids : BTreeMap ℕ ℕ) (points : BTreeMap GridPoint ℕ) : Type 0 where
  pub ids_counted : (id : ℕ) → users_in nat_cmp ids id ≡ users_of table id
  pub points_counted : (p : GridPoint) → users_in point_cmp points p ≡ users_of_point table p
