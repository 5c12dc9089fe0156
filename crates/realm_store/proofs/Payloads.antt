-- This file shows that a state has one payload: that which is written for it.
use Rattle.std.proofs.Common.{◌≡◌, ℕ, List, ap, sym, ◌∙◌}
use Rattle.record_codec.specs.declared.snapshot.Snapshot.{Snapshot}
use Rattle.record_codec.specs.Payload.{IsSnapshot, payload}
use Rattle.realm_insert.specs.State.{State}
use Rattle.realm_insert.specs.Snapshots.{state_of, payload_of, IsValidState}
use Rattle.realm_insert.proofs.OneSnapshot.{snapshot_again}
use Rattle.realm_store.specs.Stands.{Opens}

-- the payload of a snapshot is that of its state
pub of_snapshot : (s : Snapshot) → payload s ≡ payload_of (state_of s)
unfolding payload_of
of_snapshot s = ap payload (sym (snapshot_again s))

-- so a payload that opens a state is that of the state
pub payload_is : {bytes : List ℕ} {state : State} → Opens bytes state → bytes ≡ payload_of state
payload_is opens = opens.is_payload ∙ of_snapshot opens.snapshot ∙ ap payload_of (sym opens.state_is)

-- a snapshot of the state is encoded as the payload of the state,
pub encoded : (s : Snapshot) {state : State} {bytes : List ℕ} → state_of s ≡ state → bytes ≡ payload s → bytes ≡ payload_of state
encoded s same are = are ∙ of_snapshot s ∙ ap payload_of same

-- which opens it again
pub opens_again : (s : Snapshot) {state : State} → state_of s ≡ state → IsSnapshot s → IsValidState (state_of s)
    → Opens (payload_of state) state
opens_again s same is valid = record {
  snapshot = s;
  is_snapshot = is;
  is_payload = ap payload_of (sym same) ∙ sym (of_snapshot s);
  state_is = sym same;
  valid = valid;
}
