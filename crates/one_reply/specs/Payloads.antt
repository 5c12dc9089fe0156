-- States that fit into a payload.
use Rattle.std.specs.Prelude.{◌<◌, ◌^◌, length, All}
use Rattle.grid_base.specs.Point.{OnGrid}
use Rattle.grid_base.specs.declared.original.Original.{Original}
use Rattle.realm_insert.specs.State.{State}

-- the ends of the original and the points of its chain are on the grid
pub record LiesOnGrid (o : Original) : Type 0 where
  pub from : OnGrid o.a
  pub to : OnGrid o.b
  pub chain : All OnGrid o.chain

-- all points of the state are on the grid, as all that lines name are, and the number of its values fits in eight bytes
pub record FitsInPages (s : State) : Type 0 where
  pub points : All OnGrid s.drawing.points
  pub originals : All LiesOnGrid s.drawing.originals
  pub few_values : length s.values < 2 ^ 64
