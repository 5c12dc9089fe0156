use Rattle.std.proofs.Common.{refl, arith}
use Rattle.rose_measure.proofs.Opposites.{off_by_axes}
use Rattle.rose_measure.proofs.narrowing.off_opposite.Goals as goal

-- so far off along both axes
pub returns : goal.returns
returns c q inside =
    let across = c.off_twice-across.ensures.least q.x (omega (arith, c.x-2.ensures.x, inside.right_of_left_side))
    (omega (arith, c.x-3.ensures.x, inside.left_of_right_side)) in
    let up = c.off_twice-up.ensures.least q.y (omega (arith, c.y-2.ensures.y, inside.above_lower_side))
    (omega (arith, c.y-3.ensures.y, inside.below_upper_side)) in
    off_by_axes c.args.p.now q c.args.sight.now.middle _ _ _ _ _ _ _ _ _ c.x.ensures.x c.y.ensures.y c.x-4.ensures.x c.y-4.ensures.y
    across up c.square_of.ensures.square c.square_of-2.ensures.square refl
