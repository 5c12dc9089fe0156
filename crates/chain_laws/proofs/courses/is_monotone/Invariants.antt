use Rattle.std.proofs.Common.{ℕ, suc, ◌<◌, get_or}
use Rattle.grid_base.specs.Point.{GridPoint}
use Rattle.hook_chain.specs.ValidChain.{IsMonotone}
use Rattle.chain_laws.proofs.courses.is_monotone.Given as goal

-- each link before this place may stand
abbrev pub invariant-loop-i : goal.invariant-loop-i
invariant-loop-i l =
    (k : ℕ) (d : GridPoint) → suc k < l.i → IsMonotone l.o.a l.o.b (get_or l.points k d) (get_or l.points (suc k) d)
