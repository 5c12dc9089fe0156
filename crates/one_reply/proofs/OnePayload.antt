-- This file shows that a state has one payload.
use Rattle.std.proofs.Common.{◌≡◌, ℕ, List, sym, ◌∙◌}
use Rattle.realm_insert.specs.State.{State}
use Rattle.realm_store.specs.Stands.{Opens}
use Rattle.realm_store.proofs.Payloads.{payload_is}

-- each payload that opens it is that which is written for it
pub one_payload : (s : State) (first second : List ℕ) → Opens first s → Opens second s → first ≡ second
one_payload s first second one other = payload_is one ∙ sym (payload_is other)
