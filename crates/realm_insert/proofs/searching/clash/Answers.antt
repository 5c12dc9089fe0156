use Rattle.realm_insert.proofs.FoundSteps.{crossing_found}
use Rattle.realm_insert.proofs.PartedWays.{part_clear}
use Rattle.realm_insert.proofs.searching.clash.Goals as goal

-- two that lead different ways from a common end make no violation
pub returns-then-part_ways : goal.returns-then-part_ways
returns-then-part_ways c =
    part_clear c.args.drawing.now.drawing c.args.s.now c.args.t.now c.part_ways.ensures.ordered (c.part_ways.ensures.part c.if-part_ways.true)

-- where no end is inside, a crossing is all there is to find
pub returns : goal.returns
returns c =
    crossing_found c.args.drawing.now.drawing c.args.s.now c.args.t.now c.crossing_of.result
    c.requires.piece c.requires.other c.in_default.ensures c.in_default-end_inside.ensures
    c.crossing_of.ensures.apart c.crossing_of.ensures.mends
