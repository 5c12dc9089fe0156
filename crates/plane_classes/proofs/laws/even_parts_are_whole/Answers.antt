use Rattle.std.proofs.lemmas.List.Elements.{All-contains}
use Rattle.grid_base.specs.Point.{IsBefore}
use Rattle.plane_classes.proofs.RealmPlaces.{alone_in_realm}
use Rattle.plane_classes.proofs.SideLaws.{all_or_none}
use Rattle.plane_classes.proofs.laws.even_parts_are_whole.Goals as goal

-- the parity of the part changes across t, so it changes from the one class to the other, and so across s
pub returns : goal.returns
returns c = λ p q v w across_s across_t first second there.
    let list = c.args.list.now in
    let part = c.args.part.now in
    let s = c.args.s.now in
    let t = c.args.t.now in
    all_or_none part list s t p q v w c.requires.part
    (λ u in_part. All-contains (λ x. IsBefore x.a x.b) part u c.each_is_in_range.ensures.ordered in_part)
    c.requires.even c.requires.ascending c.a-lesser_of_s.ensures.ordered c.a-lesser_of_t.ensures.ordered
    (alone_in_realm list list s c.requires.noded (λ u in_list. in_list) c.requires.there.0)
    (alone_in_realm list list t c.requires.noded (λ u in_list. in_list) c.requires.there.1)
    across_s across_t first second there
