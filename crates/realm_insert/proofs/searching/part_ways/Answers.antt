use Rattle.std.proofs.Common.{◌≢◌, ◌⊎◌, subst}
use Rattle.grid_base.specs.Point.{GridPoint}
use Rattle.grid_base.specs.Segment.{IsEnd}
use Rattle.grid_base.specs.Sides.{On, side}
use Rattle.realm_insert.proofs.PartedWays.{part_by_first, part_by_last}
use Rattle.realm_insert.proofs.searching.part_ways.Goals as goal

-- the lesser end of t is one of s
pub returns-then-is_end-clause-part : goal.returns-then-is_end-clause-part
returns-then-is_end-clause-part c parts =
    let s = c.args.s.now in
    part_by_first s c.args.t.now
    (subst (λ (p : GridPoint). IsEnd p s) c.a-a.ensures.end (c.is_end.ensures.0 c.if-is_end.true))
    (subst (λ (p : GridPoint). IsEnd p s ⊎ (side s.a s.b p ≢ On)) c.b-b.ensures.end (c.is_apart.ensures parts))

-- or the greater is
pub returns-then-is_end-2-clause-part : goal.returns-then-is_end-2-clause-part
returns-then-is_end-2-clause-part c parts =
    let s = c.args.s.now in
    part_by_last s c.args.t.now
    (subst (λ (p : GridPoint). IsEnd p s) c.b-b.ensures.end (c.is_end-2.ensures.0 c.if-is_end-2.true))
    (subst (λ (p : GridPoint). IsEnd p s ⊎ (side s.a s.b p ≢ On)) c.a-a.ensures.end (c.is_apart-then-is_end-2.ensures parts))
