-- What a run from two empty files has done.
use Rattle.std.specs.Prelude.{◌≡◌, ◌⊎◌, true}
use Rattle.outside_world.specs.View.{View}
use Rattle.realm_insert.specs.State.{empty_state}
use Rattle.rose_shell.specs.Running.{IsNotBegun, HasBegun}
use Rattle.rose_shell.specs.declared.status.Status.{Status}

-- As a run does, from the empty state on. The byte of the next gate is there, so what `HasBegun` says of each crash has no premise
-- here.
abbrev pub HasRunFromNothing : View → View → Status → Type 0
HasRunFromNothing old new status =
    IsNotBegun old new status
    ⊎ ((begun : HasBegun old new status) × (begun.start.has_gate ≡ true) × (begun.start.state ≡ empty_state))
