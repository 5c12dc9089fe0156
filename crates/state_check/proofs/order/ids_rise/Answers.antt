use Rattle.std.proofs.Common.{◌<◌, refl, arith}
use Rattle.grid_base.specs.declared.original.Original.{Original}
use Rattle.state_check.proofs.InOrder.{one_is, all_are, goes_on}
use Rattle.state_check.proofs.order.ids_rise.Goals as goal

pub loop-i-init : goal.loop-i-init
loop-i-init c = one_is (λ (o p : Original). o.id < p.id) c.args.originals.now

-- an id that is greater than the last
pub loop-i-preserved : goal.loop-i-preserved
loop-i-preserved c =
    goes_on (λ (o p : Original). o.id < p.id) (λ o p q first second. omega arith) c.args.originals.now c.loop-i.i
    c.index-originals-i.result c.index-originals-i-in-loop-i.result c.loop-i.auto.i c.loop-i-test.true
    c.index-originals-i.is c.index-originals-i-in-loop-i.is (c.is_below.ensures.0 c.if-not-is_below.false) c.loop-i.invariant

-- no id is left to compare
pub returns : goal.returns
returns c = (
  λ yes. all_are (λ (o p : Original). o.id < p.id) c.args.originals.now c.loop-i.i c.loop-i-test.false c.loop-i.invariant,
  λ all. refl,
)
