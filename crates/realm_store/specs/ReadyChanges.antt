-- A change that is made and waits to be written. No public clause cites this file.
use Rattle.std.specs.Prelude.{◌≡◌, ◌-◌, List, length}
use Rattle.grid_base.specs.declared.kinds.Step.{Step}
use Rattle.line_grammar.specs.declared.command.Change.{Change}
use Rattle.record_codec.specs.Fitting.{IsRecord}
use Rattle.realm_insert.specs.State.{State}
use Rattle.realm_insert.specs.Next.{Next}
use Rattle.realm_store.specs.declared.committing.Made.{Made}
use Rattle.realm_store.specs.declared.committing.Ready.{Ready}
use Rattle.realm_store.specs.Keeping.{Kept}
use Rattle.realm_store.specs.Sound.{IsSound}
use Rattle.realm_store.specs.Replies.{ok_reply}
use Rattle.realm_store.specs.Making.{HasRoom, entry_of, record_of}
use Rattle.realm_store.specs.NextGates.{IsGateFor}

-- the change leads by some steps to a sound state, and this is its entry, and the reply to it
pub record IsMadeOf (c : Change) (old new : State) (made : Made) : Type 0 where
  pub steps : List Step
  pub next : Next old c steps new
  pub sound : IsSound new
  pub entry_is : made.entry ≡ entry_of c steps
  pub reply_is : made.reply ≡ ok_reply new.changes (length steps) old.next_id (new.next_id - old.next_id)

-- The change leads by some steps to a sound state, and its record, the gate of that and its reply wait. The gate is that of what
-- was kept before, which has room.
pub record IsReady (c : Change) (old : Kept) (new : State) (ready : Ready) : Type 0 where
  pub steps : List Step
  pub next : Next old.state c steps new
  pub sound : IsSound new
  pub gate : IsGateFor ready.gate old
  pub room : HasRoom old
  pub is_record : IsRecord ready.record
  pub record_is : ready.record ≡ record_of c steps new.changes
  pub reply_is : ready.reply ≡ ok_reply new.changes (length steps) old.state.next_id (new.next_id - old.state.next_id)
