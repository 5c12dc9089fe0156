use Rattle.std.proofs.lemmas.List.Elements.{All-contains}
use Rattle.grid_base.specs.Point.{IsBefore}
use Rattle.plane_classes.proofs.Outer.{outer_is_even}
use Rattle.plane_classes.proofs.laws.outer_class_is_even.Goals as goal

-- nothing is above a place left of all
pub returns : goal.returns
returns c =
    let border = c.args.border.now in
    outer_is_even border (λ t there. All-contains (λ u. IsBefore u.a u.b) border t c.each_is_in_range.ensures.ordered there) c.requires.even
