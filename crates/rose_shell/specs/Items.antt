-- What giving items of a certificate does. No public clause cites this file.
use Rattle.std.specs.Prelude.{◌≡◌, ◌⊎◌, false, List, Result, IfErr, OnOk}
use Rattle.outside_world.specs.GoesOn.{GoesOn}
use Rattle.outside_world.specs.declared.world.Outside.{Ghosts}
use Rattle.record_codec.specs.declared.entry.Entry.{Entry}
use Rattle.realm_audit.specs.declared.item.Item.{Item}
use Rattle.realm_insert.specs.State.{State}
use Rattle.certificate_law.specs.Certificates.{AreChangeItems}
use Rattle.rose_shell.specs.declared.fault.Fault.{Fault}
use Rattle.rose_shell.specs.declared.fault.Fault.TheVariants as faults
use Rattle.rose_shell.specs.Faults.{IsCaused, status_after}
use Rattle.rose_shell.specs.Certifying.{GivesItems}

-- All of these items were given, or the first of them until the sink failed or memory ran out. A fault has its cause.
pub record GaveItems {World : Type 0} (outside : Ghosts World) (old new : World) (items : List Item) (result : Result Unit Fault)
    : Type 0 where
  pub fault : IfErr result (λ fault. (fault ≡ faults.Sink) ⊎ (fault ≡ faults.NoMemory))
  pub caused : IfErr result (λ fault. IsCaused outside old new fault)
  pub intact : OnOk result (outside.failed new ≡ false)
  pub told : outside.tells new → GivesItems (outside.view old) (outside.view new) items (status_after result)
  pub goes_on : GoesOn outside old new

-- These were the items of the changes of the entries, which lead from the first state to the other.
pub record GaveChanges {World : Type 0} (outside : Ghosts World) (old new : World) (start : State) (entries : List Entry)
    (end : State) (result : Result Unit Fault) : Type 0 where
  pub items : List Item
  pub are_items : AreChangeItems start entries end items
  pub gave : GaveItems outside old new items result
