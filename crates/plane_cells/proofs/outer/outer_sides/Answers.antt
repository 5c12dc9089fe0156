use Rattle.std.proofs.Common.{◌∷◌, ◌++◌, [], List, All, take, sym, subst}
use Rattle.std.specs.Prelude.{Contains}
use Rattle.std.specs.List.{AllZip}
use Rattle.grid_base.specs.Segment.{GridSegment}
use Rattle.segment_lists.specs.OnGrid.{IsOnGrid}
use Rattle.plane_cells.specs.OuterSides.{AreOuterSides}
use Rattle.plane_cells.proofs.Parts.{taken_more}
use Rattle.plane_cells.proofs.Outers.{zip_push}
use Rattle.plane_cells.proofs.AnyOrder.{outer_sides_in}
use Rattle.std.proofs.lemmas.List.Elements.{Contains-append_left, Contains-append_right}
use Rattle.plane_cells.proofs.OfRealm.{of_realm, ascending_of, others_of}
use Rattle.plane_cells.proofs.outer.outer_sides.Goals as goal

-- border and list are, in order, what the sweep asks for
pub find_numbers-requires-clause-realm : goal.find_numbers-requires-clause-realm
find_numbers-requires-clause-realm c =
    let border = c.args.border.now in
    let grid = subst (All IsOnGrid) c.deref.ensures.value c.each_is_on_grid.ensures in
    rw c.deref-5.ensures.value (of_realm c.in_ok-known.known.items _ c.requires.noded
    (λ s there. Contains-append_left border c.args.list.now s ((c.in_ok-known.ensures.members s).0 there))
    c.in_ok-known.ensures.ascending grid)

pub find_numbers-requires-clause-ascending : goal.find_numbers-requires-clause-ascending
find_numbers-requires-clause-ascending c =
    let grid = subst (All IsOnGrid) c.deref.ensures.value c.each_is_on_grid.ensures in
    rw c.deref-5.ensures.value (ascending_of c.in_ok-known.known.items c.in_ok-known.ensures.ascending grid)

pub find_numbers-requires-clause-others : goal.find_numbers-requires-clause-others
find_numbers-requires-clause-others c =
    let border = c.args.border.now in
    let list = c.args.list.now in
    let grid = subst (All IsOnGrid) c.deref.ensures.value c.each_is_on_grid.ensures in
    let list_grid = subst (All IsOnGrid) c.deref-2.ensures.value c.each_is_on_grid-2.ensures in
    rw (c.deref-5.ensures.value, c.deref-6.ensures.value)
    (others_of _ c.in_ok-known.known.items c.in_ok-asked.asked.items c.in_ok-others.others.items c.requires.noded
    (λ s there. Contains-append_left border list s ((c.in_ok-known.ensures.members s).0 there))
    (λ s there. Contains-append_right border list s ((c.in_ok-asked.ensures.members s).0 there))
    c.in_ok-known.ensures.ascending grid list_grid c.in_ok-others.ensures.ascending
    (rw (c.deref-3.ensures.value, c.deref-4.ensures.value) at c.in_ok-others.ensures.members))

-- both lists of segments ascend
pub outer_sides_of-sides-requires-clause-ascending : goal.outer_sides_of-sides-requires-clause-ascending
outer_sides_of-sides-requires-clause-ascending c = rw c.deref-in-loop-s.ensures.value c.in_ok-known.ensures.ascending

pub outer_sides_of-sides-requires-clause-others_ascending : goal.outer_sides_of-sides-requires-clause-others_ascending
outer_sides_of-sides-requires-clause-others_ascending c = rw c.deref-in-loop-s-2.ensures.value c.in_ok-others.ensures.ascending

-- a segment of the list is of the border, or one of the others
pub outer_sides_of-sides-requires-clause-either : goal.outer_sides_of-sides-requires-clause-either
outer_sides_of-sides-requires-clause-either c =
    let s = c.s-item.result in
    let there : Contains c.args.list.now s = (c.loop-s.s-index, c.loop-s-test.true, sym c.s-item.is) in
    let members = rw (c.deref-3.ensures.value, c.deref-4.ensures.value) at c.in_ok-others.ensures.members in
    rw (c.deref-in-loop-s.ensures.value, c.deref-in-loop-s-2.ensures.value)
    (λ fresh. (members s).1 ((c.in_ok-asked.ensures.members s).1 there, fresh))

-- the answer for one more segment
pub loop-s-preserved : goal.loop-s-preserved
loop-s-preserved c =
    let list = c.args.list.now in
    let i = c.loop-s.s-index in
    let s = c.s-item.result in
    let R = AreOuterSides c.args.border.now in
    let answers = c.loop-s.answers.items in
    let told = rw c.deref-in-loop-s.ensures.value at c.outer_sides_of-sides.ensures in
    let here = outer_sides_in c.in_ok-known.known.items c.args.border.now s c.outer_sides_of-sides.result
    c.in_ok-known.ensures.members told in
    subst (λ (l : List GridSegment). AllZip R l c.push.new.self.items) (sym (taken_more list i s c.loop-s-test.true c.s-item.is))
    (subst (AllZip R (take i list ++ s ∷ [])) (sym c.in_ok-push.ensures.items)
    (zip_push R (take i list) answers s c.outer_sides_of-sides.result c.loop-s.invariant here))
