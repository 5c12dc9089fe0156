use Rattle.std.proofs.Common.{refl, arith, subst, sym, ◌∙◌}
use Rattle.grid_base.specs.Point.{OnGrid}
use Rattle.record_codec.specs.Fitting.{IsList}
use Rattle.state_check.proofs.PartEnds.{made_again}
use Rattle.state_copies.proofs.originals.copied_original.Goals as goal

-- the original is made again from its chain
pub returns : goal.returns
returns c =
    let points = c.in-Some.points.now in
    let copy = c.new-chain.ensures ∙ c.in_ok-list.ensures.same in
    record {
      there = made_again c.args.drawing.now.drawing c.args.id points c.new-chain.result c.in-Some.ensures.chain c.in-Some.ensures.stand
          c.index-points-0.result c.index-points-points.result c.index-points-0.is c.index-points-points.is copy;
      id_is = refl;
      fits = record {
        id = omega arith;
        from = c.on_grid.ensures;
        to = c.on_grid-2.ensures;
        chain = subst (IsList OnGrid) (sym c.new-chain.ensures) c.in_ok-list.ensures.fits;
      };
    }
