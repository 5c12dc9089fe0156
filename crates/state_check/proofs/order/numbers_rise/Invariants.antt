use Rattle.std.proofs.Common.{◌<◌, ℕ}
use Rattle.state_check.proofs.InOrder.{AreInOrder}
use Rattle.state_check.proofs.order.numbers_rise.Given as goal

-- the numbers so far rise
abbrev pub invariant-loop-i : goal.invariant-loop-i
invariant-loop-i l = AreInOrder (λ (m n : ℕ). m < n) l.numbers l.i
