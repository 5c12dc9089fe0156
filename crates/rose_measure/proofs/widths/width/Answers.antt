use Rattle.std.proofs.Common.{◌<◌, length, refl, rules}
use Rattle.rose_measure.proofs.Wholes.{ends_width, got_from}
use Rattle.rose_measure.proofs.widths.width.Goals as goal

-- the greatest from the greatest distance of the first lesser end on
pub returns : goal.returns
returns g c =
    let some : 0 < length c.args.list.now = search rules in
    let all = c.part_of-all.ensures in
    ends_width g.T.Placed.place_at _ _ _ _ _ _ _ _ all.list (got_from _ _ 0 _ c.index-list-0.is refl some) c.place-p.ensures
    c.farthest_from-found.ensures all.inside c.farthest_within.ensures
