-- Drawings that a snapshot may keep, whether or not they are a realm.
use Rattle.std.specs.Prelude.{List, AllPairs}
use Rattle.grid_base.specs.Point.{GridPoint, IsBefore}
use Rattle.grid_base.specs.Drawing.{Drawing}
use Rattle.grid_base.specs.declared.original.Original.{Original}
use Rattle.hook_chain.specs.StandingChains.{AllValid}
use Rattle.hook_chain.specs.Ids.{IsAscending}

-- these explicit points and these originals
abbrev pub drawing_with : List GridPoint → List Original → Drawing
drawing_with points originals = record { points = points; originals = originals }

-- explicit points ascend and ids rise, and each chain may stand for its original
pub record IsDrawable (d : Drawing) : Type 0 where
  pub points_ascend : AllPairs IsBefore d.points
  pub ids_rise : IsAscending d.originals
  pub chains : AllValid d
