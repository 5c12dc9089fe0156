-- What holds over any calls on a world, however many.
use Rattle.std.specs.Prelude.{◌≤◌}
use Rattle.outside_world.specs.declared.world.Outside.{Ghosts}

-- no count of faults falls, and a world that tells has told all the time
pub record GoesOn {World : Type 0} (outside : Ghosts World) (old new : World) : Type 0 where
  pub source_faults : outside.source_faults old ≤ outside.source_faults new
  pub sink_faults : outside.sink_faults old ≤ outside.sink_faults new
  pub disk_faults : outside.disk_faults old ≤ outside.disk_faults new
  pub tells : outside.tells new → outside.tells old
