use Rattle.rose_measure.proofs.Halves.{halves_by_rows}
use Rattle.rose_measure.proofs.parts.levels.Goals as goal

-- a point that isn't below the middle row is in it or above
pub returns-clause-halves : goal.returns-clause-halves
returns-clause-halves g c =
    let some = c.part_within-some.ensures in
    let rest = c.part_within-rest.ensures in
    halves_by_rows g.T.Placed.place_at _ _ _ _ _ _ _ _ _ _ _ _ _ _ c.up_to.ensures.low c.up_to.ensures.high c.from.ensures.low
    c.from.ensures.high some.list rest.list some.inside rest.inside
