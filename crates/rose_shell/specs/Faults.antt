-- Faults that are told, their cause, and the status that each ends a run with.
use Rattle.std.specs.Prelude.{◌≡◌, false, Result, Ok, Err}
use Rattle.outside_world.specs.Counts.{Rose}
use Rattle.outside_world.specs.declared.world.Outside.{Ghosts}
use Rattle.realm_pages.specs.declared.error.PagesError.{PagesError as StartError}
use Rattle.realm_pages.specs.declared.error.PagesError.TheVariants as starts
use Rattle.rose_shell.specs.declared.fault.Fault.{Fault}
use Rattle.rose_shell.specs.declared.fault.Fault.TheVariants as faults
use Rattle.rose_shell.specs.declared.status.Status.{Status}
use Rattle.rose_shell.specs.declared.status.Status.TheVariants.{Done, Usage, SourceFault, SinkFault}
use Rattle.rose_shell.specs.declared.status.Status.TheVariants.{DiskFault, Damaged, NoMemory, InputLimit}

-- a fault has its cause: the count of those of its kind has risen; and want of memory comes where no call has failed
abbrev pub IsCaused : {World : Type 0} → Ghosts World → World → World → Fault → Type 0
IsCaused outside old new faults.Source = Rose (outside.source_faults old) (outside.source_faults new)
IsCaused outside old new faults.Sink = Rose (outside.sink_faults old) (outside.sink_faults new)
IsCaused outside old new faults.Disk = Rose (outside.disk_faults old) (outside.disk_faults new)
IsCaused outside old new faults.NoMemory = outside.failed new ≡ false

-- and so has a status that tells of one
pub record HasCause {World : Type 0} (outside : Ghosts World) (old new : World) (status : Status) : Type 0 where
  pub source : status ≡ SourceFault → IsCaused outside old new faults.Source
  pub sink : status ≡ SinkFault → IsCaused outside old new faults.Sink
  pub disk : status ≡ DiskFault → IsCaused outside old new faults.Disk

-- the status tells that a call has failed
abbrev pub TellsFault : Status → Type 0
TellsFault Done = ⊥
TellsFault Usage = ⊥
TellsFault SourceFault = Unit {0}
TellsFault SinkFault = Unit {0}
TellsFault DiskFault = Unit {0}
TellsFault (Damaged d) = ⊥
TellsFault NoMemory = ⊥
TellsFault InputLimit = ⊥

-- the status that a fault ends a run with
abbrev pub status_of : Fault → Status
status_of faults.Source = SourceFault
status_of faults.Sink = SinkFault
status_of faults.Disk = DiskFault
status_of faults.NoMemory = NoMemory

-- the status of a run that has come to its end, or to a fault
abbrev pub status_at : Result Status Fault → Status
status_at (Ok status) = status
status_at (Err fault) = status_of fault

-- the status of a command that has given all, or has come to a fault
abbrev pub status_after : Result Unit Fault → Status
status_after (Ok u) = Done
status_after (Err fault) = status_of fault

-- the status of a command whose store isn't started
abbrev pub status_unstarted : StartError → Status
status_unstarted starts.Disk = DiskFault
status_unstarted (starts.Damaged d) = Damaged d
status_unstarted starts.NoMemory = NoMemory
