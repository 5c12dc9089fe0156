use Rattle.std.proofs.Common.{All, ap, subst, arith}
use Rattle.std.proofs.lemmas.List.{take_all}
use Rattle.std.proofs.lemmas.List.Elements.{All-more}
use Rattle.grid_base.specs.Point.{GridPoint}
use Rattle.segment_lists.specs.OnGrid.{IsOnGrid}
use Rattle.segment_lists.proofs.grid.each_is_on_grid.Goals as goal

-- the next segment is on the grid, as its ends tell
pub loop-s-preserved : goal.loop-s-preserved
loop-s-preserved c = All-more IsOnGrid c.args.list.now c.loop-s.s-index c.s-item.result (omega arith) c.loop-s.invariant
    (subst IsOnGrid c.s-item.is (record {
      order = c.a-lesser.ensures.ordered;
      row = omega (arith, c.y-row.ensures.y, c.y-row.ensures.on_grid, ap (λ (p : GridPoint). p.y) c.a-lesser.ensures.end);
      end_column = omega (
        arith,
        c.x-end_column.ensures.x,
        c.x-end_column.ensures.on_grid,
        ap
            (λ (p : GridPoint). p.x) c.b-greater.ensures.end,
      );
      end_row = omega (arith, c.y-end_row.ensures.y, c.y-end_row.ensures.on_grid, ap (λ (p : GridPoint). p.y) c.b-greater.ensures.end);
    }))

pub returns : goal.returns
returns c = subst (All IsOnGrid) (take_all c.loop-s.s-index c.args.list.now (omega arith)) c.loop-s.invariant
