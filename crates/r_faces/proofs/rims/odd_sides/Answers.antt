use Rattle.std.proofs.Common.{slice_index_or, false, arith}
use Rattle.grid_base.specs.Odd.{AreSides}
use Rattle.grid_base.proofs.Elements.{same_place}
use Rattle.plane_cells.proofs.OfRealm.{of_realm}
use Rattle.r_faces.proofs.FaceRims.{IsKnown, number_here, one_more, long_zip}
use Rattle.r_faces.proofs.rims.odd_sides.Goals as goal

-- each segment has its answers
pub bounds-odd-i : goal.bounds-odd-i
bounds-odd-i c =
    let e = long_zip (AreSides c.args.border.now) c.args.border.now c.args.odd.now c.requires.odd in omega (arith, e, c.loop-i-test.true)

-- one side of the next segment is odd
pub loop-i-preserved : goal.loop-i-preserved
loop-i-preserved c =
    let B = c.args.border.now in
    let i = c.loop-i.i in
    let e = long_zip (AreSides B) B c.args.odd.now c.requires.odd in
    let a = slice_index_or c.args.odd.now i (record { left = false; right = false }) in
    let m = slice_index_or c.args.classes.now i (record { left = 0; right = 0 }) in
    let known : IsKnown B c.args.classes.now = record {
      realm = of_realm B B c.requires.noded (λ s there. there) c.requires.ascending c.each_is_on_grid.ensures;
      noded = c.requires.noded;
      ascending = c.requires.ascending;
      even = c.requires.even;
      numbers = c.requires.classes;
    } in
    one_more B c.args.classes.now i c.on_side.result c.loop-i.numbers.items c.push.new.self.items c.in_ok-push.ensures.items
    (number_here B c.args.classes.now c.args.odd.now i c.on_side.result a m known c.requires.odd c.loop-i-test.true
    (same_place c.args.odd.now i _ _ (omega (arith, e, c.loop-i-test.true)))
    (same_place c.args.classes.now i _ _ (omega (arith, c.requires.classes.one_each, c.loop-i-test.true))) c.on_side.ensures)
    c.loop-i.invariant
