-- What a record that comes from another store makes of what is kept.
use Rattle.std.specs.Prelude.{◌≡◌, ◌⊎◌, ◌+◌, ℕ, true, List, ◌∷◌, ◌++◌, length, Some, Result, Err}
use Rattle.record_codec.specs.declared.entry.Entry.{Entry}
use Rattle.record_codec.specs.declared.record.Record.{Record}
use Rattle.realm_insert.specs.State.{State}
use Rattle.realm_store.specs.declared.error.AcceptError.{AcceptError}
use Rattle.realm_store.specs.declared.error.AcceptError.TheVariants.{Gap, Full, Generations}
use Rattle.realm_store.specs.Sound.{IsSound}
use Rattle.realm_store.specs.Leading.{LeadsBy, LeadOnBy, Leads}
use Rattle.realm_store.specs.Keeping.{Kept}
use Rattle.realm_store.specs.Making.{HasRoom, place_behind}

-- the record leads on from what is kept to a sound state, and stands behind the gate that waited, with a gate behind it
pub record Accepts (old : Kept) (r : Record) (new : Kept) : Type 0 where
  pub leads : Leads old.state r new.state
  -- there was room for it
  pub room : HasRoom old
  pub place : new.place ≡ Some (place_behind old r)
  pub has_gate : new.has_gate ≡ true
  pub sound : IsSound new.state

-- the entries before this one lead on from the state, and it leads nowhere; its change would have this number
pub record FailsAt (state : State) (r : Record) (number : ℕ) : Type 0 where
  pub before : List Entry
  pub e : Entry
  pub more : List Entry
  pub in_order : r.entries ≡ before ++ e ∷ more
  pub mid : State
  pub lead : LeadOnBy state before mid
  pub nowhere : (after : State) → LeadsBy mid e after → ⊥
  pub number_is : number ≡ r.number + length before

-- the record isn't taken: it doesn't have the next number, or there is no room for it
abbrev pub IsNotTaken : Result Unit AcceptError → Type 0
IsNotTaken result = ((have : ℕ) × (result ≡ Err (Gap have))) ⊎ ((result ≡ Err Full) ⊎ (result ≡ Err Generations))
