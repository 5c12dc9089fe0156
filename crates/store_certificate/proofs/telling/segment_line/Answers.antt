use Rattle.std.proofs.Common.{refl, arith}
use Rattle.state_check.proofs.PartEnds.{made_again}
use Rattle.store_certificate.proofs.telling.segment_line.Goals as goal

-- the original is made again from its chain, whose ends are its own
pub returns : goal.returns
returns c =
    let points = c.in_ok-points.points.now in
    let told = c.in_ok-points.ensures in
    let there = made_again c.args.drawing.now.drawing c.args.id points points told.chain told.stand
    c.index-points-0.result c.index-points-points.result c.index-points-0.is c.index-points-points.is refl in (
      (record { some = omega (arith, c.requires.some); small = omega (arith, c.ranges.id.fits) }, c.on_grid.ensures, c.on_grid-2.ensures),
      record { id = c.args.id; a = c.index-points-0.result; b = c.index-points-points.result; chain = points },
      there,
      refl,
      refl,
    )
