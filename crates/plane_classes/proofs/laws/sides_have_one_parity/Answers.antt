use Rattle.std.proofs.lemmas.List.Elements.{All-contains}
use Rattle.grid_base.specs.Point.{IsBefore}
use Rattle.grid_base.proofs.Elements.{Contains-here, Contains-later}
use Rattle.plane_classes.proofs.RealmPlaces.{alone_in_realm}
use Rattle.plane_classes.proofs.SideLaws.{one_side_parity}
use Rattle.plane_classes.proofs.laws.sides_have_one_parity.Goals as goal
use Rattle.std.proofs.Common.{◌∷◌}

-- no other segment has a place inside s, so all ways to it pass the same
pub returns : goal.returns
returns c = λ d p q off first second.
    let border = c.args.border.now in
    let s = c.args.s.now in
    one_side_parity border s d p q (λ t there. All-contains (λ u. IsBefore u.a u.b) border t c.each_is_in_range.ensures.ordered there)
    c.requires.even c.a-lesser.ensures.ordered
    (alone_in_realm border (s ∷ border) s c.requires.noded (λ t there. Contains-later s border t there) (Contains-here s border))
    off first second
