use Rattle.std.proofs.Common.{sym, ◌∙◌}
use Rattle.std.proofs.lemmas.List.{take-append-drop}
use Rattle.rose_measure.proofs.Halves.{halves_by_places}
use Rattle.rose_measure.proofs.parts.halves.Goals as goal

-- the points of the front are in the box of the front, and those of the back in that of the back
pub returns-clause-halves : goal.returns-clause-halves
returns-clause-halves g c =
    let some = c.part_within-some.ensures in
    let rest = c.part_within-rest.ensures in
    halves_by_places g.T.Placed.place_at _ _ _ _ _ _ _ _ _ _ _ (sym (take-append-drop _ _))
    (some.list ∙ c.split_at.ensures.front) (rest.list ∙ c.split_at.ensures.back) some.inside rest.inside
