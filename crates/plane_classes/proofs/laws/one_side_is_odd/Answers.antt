use Rattle.std.proofs.lemmas.List.Elements.{All-contains}
use Rattle.grid_base.specs.Point.{IsBefore}
use Rattle.plane_classes.proofs.RealmPlaces.{alone_in_realm}
use Rattle.plane_classes.proofs.SideLaws.{one_is_odd, once_in}
use Rattle.plane_classes.proofs.laws.one_side_is_odd.Goals as goal

-- s comes once in the border, and is all that changes from side to side
pub returns : goal.returns
returns c = λ p q left right.
    let border = c.args.border.now in
    let s = c.args.s.now in
    one_is_odd border s p q (λ t there. All-contains (λ u. IsBefore u.a u.b) border t c.each_is_in_range.ensures.ordered there)
    c.requires.even c.a-lesser.ensures.ordered
    (alone_in_realm border border s c.requires.noded (λ t there. there) c.requires.there)
    (once_in s border c.requires.ascending c.requires.there) left right
