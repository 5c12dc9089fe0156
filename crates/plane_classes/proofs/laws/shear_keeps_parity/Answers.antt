use Rattle.std.proofs.Common.{◌<◌, map, sym, ◌∙◌, arith}
use Rattle.std.proofs.lemmas.List.Elements.{All-contains}
use Rattle.grid_base.specs.Grid.{grid_side}
use Rattle.grid_base.specs.Point.{IsBefore}
use Rattle.plane_classes.specs.Shear.{sheared, sheared_place}
use Rattle.plane_classes.proofs.Ways.{AreInOrder}
use Rattle.plane_classes.proofs.Unsheared.{AreBelow}
use Rattle.plane_classes.proofs.Counts.{odd_is, is_odd, even_is}
use Rattle.plane_classes.proofs.ShearedParity.{parity_sheared}
use Rattle.plane_classes.proofs.laws.shear_keeps_parity.Goals as goal

-- what is above a place in one column and not in the other has an end between the two
pub returns : goal.returns
returns c = λ q free.
    let border = c.args.border.now in
    let ordered : AreInOrder border = λ s there. All-contains (λ t. IsBefore t.a t.b) border s c.each_is_in_range.ensures.ordered there in
    let low : AreBelow grid_side border = λ s there. All-contains (λ t. t.a.y < grid_side) border s c.each_is_in_range.ensures.low there in
    let same = parity_sheared grid_side border q (omega arith) ordered low (even_is border ordered c.requires.even) free in
    let image = map (sheared grid_side) border in (
      λ odd. is_odd image (sheared_place grid_side q) (sym same ∙ odd_is border q odd),
      λ odd. is_odd border q (same ∙ odd_is image (sheared_place grid_side q) odd),
    )
