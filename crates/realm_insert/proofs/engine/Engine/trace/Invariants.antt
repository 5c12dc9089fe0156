use Rattle.std.proofs.Common.{◌≡◌, ◌<◌, ℕ, get_or}
use Rattle.realm_insert.specs.State.{KeptTrace}
use Rattle.realm_insert.proofs.engine.Engine.trace.Given as goal

-- none so far has the number
abbrev pub invariant-loop-kept : goal.invariant-loop-kept
invariant-loop-kept l =
    (k : ℕ) (other : KeptTrace) → k < l.kept-index → (get_or l.self.state.traces k other).number ≡ l.number → ⊥
