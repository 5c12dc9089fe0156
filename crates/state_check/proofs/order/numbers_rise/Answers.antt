use Rattle.std.proofs.Common.{◌-◌, ◌<◌, ℕ, length, get_or, refl, arith}
use Rattle.grid_base.proofs.Elements.{same_place}
use Rattle.state_check.proofs.InOrder.{one_is, all_are, goes_on}
use Rattle.state_check.proofs.order.numbers_rise.Goals as goal

pub loop-i-init : goal.loop-i-init
loop-i-init c = one_is (λ (m n : ℕ). m < n) c.args.numbers.now

-- a number that is greater than the last
pub loop-i-preserved : goal.loop-i-preserved
loop-i-preserved c =
    let numbers = c.args.numbers.now in
    let i = c.loop-i.i in
    let some : i < length numbers = c.loop-i-test.true in
    goes_on (λ (m n : ℕ). m < n) (λ l m n first second. omega arith) numbers i (get_or numbers (i - 1) 0) (get_or numbers i 0)
    c.loop-i.auto.i some (same_place numbers (i - 1) 0 (get_or numbers (i - 1) 0) (omega (arith, some)))
    (same_place numbers i 0 (get_or numbers i 0) some) (c.is_less.ensures.0 c.if-not-is_less.false) c.loop-i.invariant

-- no number is left to compare
pub returns : goal.returns
returns c = (
  λ yes. all_are (λ (m n : ℕ). m < n) c.args.numbers.now c.loop-i.i c.loop-i-test.false c.loop-i.invariant,
  λ all. refl,
)
