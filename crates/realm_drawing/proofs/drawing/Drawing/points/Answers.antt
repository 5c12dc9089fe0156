use Rattle.std.proofs.lemmas.List.Filters.{dedup_is}
use Rattle.grid_base.proofs.Orders.{points_ascend}
use Rattle.realm_drawing.proofs.Listings.{points_are_listed}
use Rattle.realm_drawing.proofs.drawing.Drawing.points.Goals as goal

-- the list is sorted, and then each element is kept once
pub returns-clause-ascending : goal.returns-clause-ascending
returns-clause-ascending c =
    let sorted = c.sort_unstable.new.self.items in
    rw (dedup_is _ _ _ c.dedup.ensures.filtered) (points_ascend sorted c.sort_unstable.ensures.sorted)

-- the points that are used are the vertices
pub returns-clause-exact : goal.returns-clause-exact
returns-clause-exact c =
    let inside = c.self.inside in
    let sorted = c.sort_unstable.new.self.items in
    let whole = rw (c.in_ok-points.ensures, c.deref.ensures.value) at c.in_ok-extend_from_slice.ensures.items in
    rw (dedup_is _ _ _ c.dedup.ensures.filtered, ← c.self.view_is)
    (points_are_listed inside.explicit inside.originals _ c.self.invariant c.in_ok-vertices.vertices.items _ sorted
    c.in_ok-vertices.ensures.exact whole c.sort_unstable.ensures.permutation)
