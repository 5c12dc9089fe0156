use Rattle.std.proofs.Common.{◌<◌, arith}
use Rattle.std.proofs.lemmas.List.Elements.{All-contains}
use Rattle.grid_base.specs.Grid.{grid_side}
use Rattle.grid_base.specs.Point.{IsBefore}
use Rattle.plane_classes.proofs.Ways.{AreInOrder}
use Rattle.plane_classes.proofs.Shears.{class_sheared}
use Rattle.plane_classes.proofs.Unsheared.{AreBelow, class_unsheared}
use Rattle.plane_classes.proofs.laws.shear_keeps_classes.Goals as goal

-- a way goes to a way, there and back
pub returns : goal.returns
returns c = λ p q p_free q_free.
    let list = c.args.list.now in
    let ordered : AreInOrder list = λ s there. All-contains (λ t. IsBefore t.a t.b) list s c.each_is_in_range.ensures.ordered there in
    let low : AreBelow grid_side list = λ s there. All-contains (λ t. t.a.y < grid_side) list s c.each_is_in_range.ensures.low there in (
      class_sheared grid_side list p q ordered (omega arith),
      class_unsheared grid_side list p q ordered low (omega arith) p_free q_free,
    )
