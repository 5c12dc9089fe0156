use Rattle.std.proofs.Common.{◌<◌, All, ap, subst, arith}
use Rattle.std.proofs.lemmas.List.{take_all}
use Rattle.std.proofs.lemmas.List.Elements.{All-more}
use Rattle.grid_base.specs.Grid.{grid_side}
use Rattle.grid_base.specs.Point.{GridPoint, IsBefore}
use Rattle.plane_classes.proofs.laws.each_is_in_range.Goals as goal

-- the next segment is ordered and low enough, as its lesser end tells
pub loop-s-preserved : goal.loop-s-preserved
loop-s-preserved c = record {
  ordered = All-more (λ t. IsBefore t.a t.b) c.args.list.now c.loop-s.s-index c.s-item.result (omega arith) c.loop-s.invariant.ordered
      (subst (λ t. IsBefore t.a t.b) c.s-item.is c.a-lesser.ensures.ordered);
  low = All-more (λ t. t.a.y < grid_side) c.args.list.now c.loop-s.s-index c.s-item.result (omega arith) c.loop-s.invariant.low
      (subst (λ t. t.a.y < grid_side) c.s-item.is
      (omega (arith, c.y-row.ensures.y, c.y-row.ensures.on_grid, ap (λ (p : GridPoint). p.y) c.a-lesser.ensures.end)));
}

-- in the end all are
pub returns-clause-ordered : goal.returns-clause-ordered
returns-clause-ordered c =
    subst (All (λ s. IsBefore s.a s.b)) (take_all c.loop-s.s-index c.args.list.now (omega arith)) c.loop-s.invariant.ordered

pub returns-clause-low : goal.returns-clause-low
returns-clause-low c = subst (All (λ s. s.a.y < grid_side)) (take_all c.loop-s.s-index c.args.list.now (omega arith)) c.loop-s.invariant.low
