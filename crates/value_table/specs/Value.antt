-- Values, and what their parts are.
use Rattle.std.specs.Prelude.{ℕ, Bool, nat_eq, List, []}
use Rattle.std.specs.List.{list_any}
use Rattle.grid_base.specs.Point.{GridPoint, is_point}
use Rattle.value_table.specs.declared.value.Value.{Value}
use Rattle.value_table.specs.declared.value.Parts.{Parts}
use Rattle.value_table.specs.declared.value.Parts.TheVariants.{Points, Ids}

-- the ids among the parts
abbrev pub ids_among : Parts → List ℕ
ids_among (Points points) = []
ids_among (Ids ids) = ids

-- the points among the parts
abbrev pub points_among : Parts → List GridPoint
points_among (Points points) = points
points_among (Ids ids) = []

-- whether v names the id among its parts
abbrev pub names_id : ℕ → Value → Bool
names_id id v = list_any (nat_eq id) (ids_among v.parts)

-- whether v names the point p among its parts
abbrev pub names_point : GridPoint → Value → Bool
names_point p v = list_any (is_point p) (points_among v.parts)
