use Rattle.std.proofs.Common.{All, subst}
use Rattle.std.proofs.lemmas.Result.{IfOk-weaker}
use Rattle.segment_lists.specs.OnGrid.{IsOnGrid}
use Rattle.plane_cells.proofs.OfRealm.{of_realm, ascending_of, no_others}
use Rattle.plane_cells.proofs.AnyOrder.{class_numbers_in}
use Rattle.plane_cells.proofs.classes.side_classes.Goals as goal

-- the ascending segments are what the sweep asks for
pub find_numbers-requires-clause-realm : goal.find_numbers-requires-clause-realm
find_numbers-requires-clause-realm c =
    let list = c.in_ok-ascending.ascending.items in
    let grid = subst (All IsOnGrid) c.deref.ensures.value c.each_is_on_grid.ensures in
    rw c.deref-2.ensures.value (of_realm list c.args.border.now c.requires.noded
    (λ s there. (c.in_ok-ascending.ensures.members s).0 there) c.in_ok-ascending.ensures.ascending grid)

pub find_numbers-requires-clause-ascending : goal.find_numbers-requires-clause-ascending
find_numbers-requires-clause-ascending c =
    let grid = subst (All IsOnGrid) c.deref.ensures.value c.each_is_on_grid.ensures in
    rw c.deref-2.ensures.value (ascending_of c.in_ok-ascending.ascending.items c.in_ok-ascending.ensures.ascending grid)

pub find_numbers-requires-clause-others : goal.find_numbers-requires-clause-others
find_numbers-requires-clause-others c = no_others c.deref-2.result.now

-- each segment of the border is among them
pub sides_of-requires-clause-there : goal.sides_of-requires-clause-there
sides_of-requires-clause-there c = rw c.deref-3.ensures.value (λ s there. (c.in_ok-ascending.ensures.members s).1 there)

-- and has the numbers that it has there
pub returns : goal.returns
returns c =
    let list = c.in_ok-ascending.ascending.items in
    let sides = c.in_ok-numbers.numbers.sides.items in
    let known = rw c.deref-2.ensures.value at c.in_ok-numbers.ensures.sides in
    IfOk-weaker c.sides_of.result _ _
    (λ v found. class_numbers_in list c.args.border.now sides v.items c.in_ok-ascending.ensures.members
    (rw (c.deref-3.ensures.value, c.deref-4.ensures.value) at found) known)
    c.sides_of.ensures
