use Rattle.std.proofs.lemmas.List.Filters.{dedup_is}
use Rattle.grid_base.proofs.Orders.{segments_ascend}
use Rattle.value_geometry.proofs.SortedLinks.{once_on_chain, once_noded}
use Rattle.value_geometry.proofs.geometry.lines_of.Goals as goal

-- the list is sorted, and then each segment is kept once
pub new-requires-clause-ascending : goal.new-requires-clause-ascending
new-requires-clause-ascending c =
    rw (dedup_is _ _ _ c.dedup.ensures.filtered) (segments_ascend c.sort_unstable.new.self.items c.sort_unstable.ensures.sorted)

-- they are pieces of a realm
pub new-requires-clause-noded : goal.new-requires-clause-noded
new-requires-clause-noded c =
    let d = c.args.drawing.now.drawing in
    let ids = c.args.ids.now in
    let (parts, are) = c.requires.there in
    let all = (rw c.ids.ensures.ids at c.in_ok-links.ensures) parts are in
    rw (dedup_is _ _ _ c.dedup.ensures.filtered)
    (once_noded d ids parts are c.in_ok-links.links.items c.sort_unstable.new.self.items all c.sort_unstable.ensures.permutation
    c.requires.realm)

-- those on the chains of the parts
pub returns : goal.returns
returns c = λ s.
    let d = c.args.drawing.now.drawing in
    let ids = c.args.ids.now in
    let (parts, are) = c.requires.there in
    let all = (rw c.ids.ensures.ids at c.in_ok-links.ensures) parts are in
    rw (c.new.ensures, dedup_is _ _ _ c.dedup.ensures.filtered)
    (once_on_chain d ids parts are c.in_ok-links.links.items c.sort_unstable.new.self.items all
    c.sort_unstable.ensures.permutation s)
