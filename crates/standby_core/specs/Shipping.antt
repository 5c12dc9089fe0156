-- Which frames are sent to a standby that has k changes.
use Rattle.std.specs.Prelude.{◌≡◌, ◌<◌, ◌≤◌, ◌+◌, ◌-◌, ℕ, List, [], ◌∷◌, length, map, filter, nat_lt}
use Rattle.record_codec.specs.declared.record.Record.{Record}
use Rattle.record_codec.specs.declared.snapshot.Snapshot.{Snapshot}
use Rattle.standby_core.specs.declared.frame.Frame.{Frame}
use Rattle.standby_core.specs.declared.frame.Frame.TheVariants.{Rec, Snap}

-- the number of the last change of a record, which has one change or more
abbrev pub last_number : Record → ℕ
last_number r = r.number + (length r.entries - 1)

-- of these records, each that has a change which comes after k
abbrev pub records_above : ℕ → List Record → List Frame
records_above k records = map Rec (filter (λ r. nat_lt k (last_number r)) records)

-- these frames are sent, where the records lead from a state with base changes to the present one
pub record AreSent (base : ℕ) (records : List Record) (now : Snapshot) (k : ℕ) (frames : List Frame)
    : Type 0 where
  pub nothing_new : now.changes ≤ k → frames ≡ []
  pub new_records : k < now.changes → base ≤ k → frames ≡ records_above k records
  pub whole_state : k < now.changes → k < base → frames ≡ Snap now ∷ []
