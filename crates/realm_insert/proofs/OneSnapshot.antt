-- This file shows that a state is kept by one snapshot, which can be taken back from it.
use Rattle.std.proofs.Common.{◌≡◌, ℕ, List, [], ◌∷◌, map, refl, ap, ap₂}
use Rattle.record_codec.specs.declared.snapshot.Kept.{Kept}
use Rattle.record_codec.specs.declared.snapshot.KeptParts.{KeptParts}
use Rattle.record_codec.specs.declared.snapshot.Named.{Named}
use Rattle.record_codec.specs.declared.snapshot.Snapshot.{Snapshot}
use Rattle.state_check.specs.Tabled.{entry_of, kept_parts, parts_of}
use Rattle.state_copies.proofs.NamedValues.{parts_kept}
use Rattle.value_table.specs.declared.value.Value.{Value}
use Rattle.value_table.specs.declared.value.Parts.{Parts}
use Rattle.value_table.specs.declared.value.Parts.TheVariants.{Points, Ids}
use Rattle.realm_insert.specs.State.{State, kept_trace}
use Rattle.realm_insert.specs.Snapshots.{state_of, snapshot_for, kept_entry, kept_steps}

-- what can be taken back from each element can be from the list
taken_back : {X Y : Type 0} (f : X → Y) (back : Y → X) → ((x : X) → back (f x) ≡ x) → (xs : List X) → map back (map f xs) ≡ xs
taken_back f back same [] = refl
taken_back {X} f back same (x ∷ xs) = ap₂ (λ (y : X) (ys : List X). y ∷ ys) (same x) (taken_back f back same xs)

-- ---- from a snapshot to its state and back

-- a name with its value is the one that it was made of
entry_kept : (n : Named) → kept_entry (entry_of n) ≡ n
entry_kept n = ap (λ (made : KeptParts). record { name = n.name; value = record { kind = n.value.kind; parts = made } })
    (parts_kept n.value.parts)

-- so the snapshot can be taken back from its state, field by field
pub snapshot_again : (s : Snapshot) → snapshot_for (state_of s) ≡ s
snapshot_again s =
    let values = taken_back entry_of kept_entry entry_kept s.values in
    let traces = taken_back (λ (k : Kept). kept_trace k.number k.steps) kept_steps (λ k. refl) s.traces in
    λ i. record {
      changes = s.changes;
      next_id = s.next_id;
      points = s.points;
      originals = s.originals;
      values = values i;
      traces = traces i;
    }

-- ---- from a state to its snapshot and back

parts_again : (parts : Parts) → parts_of (kept_parts parts) ≡ parts
parts_again (Points list) = refl
parts_again (Ids ids) = refl

entry_again : (entry : List ℕ × Value) → entry_of (kept_entry entry) ≡ entry
entry_again entry =
    ap (λ (made : Parts). (entry.0, record { kind = entry.1.kind; parts = made })) (parts_again entry.1.parts)

pub state_again : (s : State) → state_of (snapshot_for s) ≡ s
state_again s =
    let values = taken_back kept_entry entry_of entry_again s.values in
    let traces = taken_back kept_steps (λ (k : Kept). kept_trace k.number k.steps) (λ t. refl) s.traces in
    λ i. record {
      drawing = s.drawing;
      next_id = s.next_id;
      values = values i;
      changes = s.changes;
      traces = traces i;
    }
