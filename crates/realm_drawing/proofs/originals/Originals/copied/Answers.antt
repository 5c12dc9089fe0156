use Rattle.std.proofs.Common.{◌∙◌, ◌<◌, List, All, sym, subst}
use Rattle.std.specs.Map.Iter.{deref_pair}
use Rattle.grid_base.specs.declared.original.Original.{Original}
use Rattle.realm_drawing.proofs.Copies.{next_above, next_copied}
use Rattle.realm_drawing.proofs.originals.Originals.copied.Goals as goal

-- the ids rise, so the next is above those that the copy has
pub put-requires : goal.put-requires
put-requires c =
    let id = c.in-Some.id.now in
    let start = c.into_iter-id-iterator.ensures.into_iter_gives ∙ c.iter-id-items.ensures.rest in
    let above = next_above deref_pair c.self.inside.by_id.entries _ _ _ c.loop-id.yielded _ (c.in-Some.id, c.in-Some.placed)
    start c.loop-id.yielded_by c.in-Some.is c.next.ensures.steps c.self.invariant in
    record { id_above = subst (λ (os : List Original). All (λ o. o.id < id) os) (sym c.loop-id.invariant) above }

-- its chain has the same points
pub loop-id-preserved : goal.loop-id-preserved
loop-id-preserved c =
    let same = c.new.ensures ∙ c.in_ok-points.ensures ∙ c.points.ensures in
    next_copied deref_pair c.loop-id.copy c.put.new.self c.loop-id.yielded (c.in-Some.id, c.in-Some.placed) c.new.result
    c.loop-id.invariant same c.in_ok-put.ensures.ok
