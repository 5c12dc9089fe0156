use Rattle.realm_audit.specs.declared.item.Item.TheVariants as items
use Rattle.rose_shell.proofs.GivenItems.{gave_nothing, gave_one, gave_to, gave_over, gave_err}
use Rattle.rose_shell.proofs.items.give_points.Goals as goal

pub loop-point-init : goal.loop-point-init
loop-point-init g c = record { gave = gave_nothing c.requires.intact }

-- one point more
pub loop-point-preserved : goal.loop-point-preserved
loop-point-preserved g c = record {
  gave = gave_one (λ p. items.Point p) c.args.points.now c.loop-point.point-index c.point-item.result c.loop-point-test.true
      c.point-item.is c.loop-point.invariant.gave c.opening_point.ensures.item c.in_ok-give_item.ensures;
}

-- a fault comes within its line, or before
pub returns-in_err-give_item : goal.returns-in_err-give_item
returns-in_err-give_item g c =
    gave_err c.from_residual.result c.from_residual.ensures.1
    (gave_to (λ p. items.Point p) c.args.points.now c.loop-point.point-index c.point-item.result c.loop-point-test.true
    c.point-item.is c.loop-point.invariant.gave c.opening_point.ensures.item c.in_err-give_item.ensures)

-- they were all
pub returns : goal.returns
returns g c =
    gave_over (λ p. items.Point p) c.args.points.now c.loop-point.point-index c.loop-point.invariant.gave c.loop-point-test.false
