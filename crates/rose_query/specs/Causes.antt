-- Replies in a state, and causes to refuse a query.
use Rattle.std.specs.Prelude.{◌≡◌, ◌⊎◌, ℕ, List}
use Rattle.realm_insert.specs.State.{State}
use Rattle.realm_insert.specs.declared.refusal.Refusal.{Refusal}
use Rattle.rose_query.specs.Replies.{no_reply}

-- of this state this reply
abbrev pub Answer : Type 1
Answer = State → List ℕ → Type 0

-- the query is refused where the cause holds, and answered where it doesn't
abbrev pub Unless : (State → Type 0) → Refusal → Answer → Answer
Unless cause refusal answer state reply =
    (cause state × (reply ≡ no_reply refusal)) ⊎ ((cause state → ⊥) × answer state reply)
