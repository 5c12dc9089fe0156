use Rattle.std.proofs.Common.{◌∙◌, ◌+◌, [], map, sym, true≢false}
use Rattle.std.specs.Map.Iter.{deref}
use Rattle.grid_base.specs.Point.{InBox}
use Rattle.realm_drawing.proofs.Stops.{jumps_there, ends_there, next_there}
use Rattle.realm_drawing.proofs.Scans.{lent_to, lent_all, none_before, none_inside, none_more}
use Rattle.realm_drawing.proofs.explicit.ExplicitPoints.inside_from.Goals as goal

-- one that is inside is of the points
pub returns-then-in_side : goal.returns-then-in_side
returns-then-in_side c =
    let start = c.into_iter-p-iterator.ensures.into_iter_gives ∙ c.scan_from-p-items.ensures.rest in
    let whole = lent_to _ _ _ _ c.loop-p.yielded _ c.in-Some.p start c.loop-p.yielded_by c.in-Some.is c.next.ensures.steps in
    (next_there c.args.self.now c.args.s.now c.args.column _ _ c.in-Some.p.now whole, c.in_side.ensures.0 c.if-in_side.true)

-- one that isn't is passed
pub loop-p-preserved-then-not-in_box : goal.loop-p-preserved-then-not-in_box
loop-p-preserved-then-not-in_box c =
    none_more c.args.s.now c.loop-p.yielded c.in-Some.p c.loop-p.invariant
    (λ inside. true≢false (sym (c.in_side.ensures.1 inside) ∙ c.if-in_side.false))

pub loop-p-preserved : goal.loop-p-preserved
loop-p-preserved c =
    none_more c.args.s.now c.loop-p.yielded c.in-Some.p c.loop-p.invariant
    (λ inside. true≢false (sym (c.in_side.ensures.1 inside) ∙ c.if-in_side.false))

-- at a jump none in the columns before the next one is inside
pub returns-then-spare-eq0 : goal.returns-then-spare-eq0
returns-then-spare-eq0 c =
    let s = c.args.s.now in
    let points = c.args.self.now in
    let met = map deref c.loop-p.yielded in
    let out : InBox s.a s.b c.in-Some.p.now → ⊥ = λ inside. true≢false (sym (c.in_box.ensures.1 inside) ∙ c.if-not-in_box.true) in
    let start = c.into_iter-p-iterator.ensures.into_iter_gives ∙ c.scan_from-p-items.ensures.rest in
    let whole = lent_to _ _ _ _ c.loop-p.yielded _ c.in-Some.p start c.loop-p.yielded_by c.in-Some.is c.next.ensures.steps in
    let jumps = jumps_there points s c.args.column c.in-Some.p.now c.column_after.result met _
    c.scan_from-p-items.ensures.ascending c.requires.reached whole out c.column_after.ensures in (
      jumps.0,
      none_before points s c.args.column c.column_after.result met _ c.requires.reached whole jumps.1
          c.requires.passed c.loop-p.invariant,
    )

-- at the end none is anywhere
pub returns : goal.returns
returns c =
    let s = c.args.s.now in
    let points = c.args.self.now in
    let met = map deref c.loop-p.yielded in
    let start = c.into_iter-p-iterator.ensures.into_iter_gives ∙ c.scan_from-p-items.ensures.rest in
    let whole = lent_all _ _ _ _ c.loop-p.yielded _ start c.loop-p.yielded_by c.in-None.is c.next.ensures.steps in
    none_inside points s c.args.column c.requires.reached (none_before points s c.args.column (s.b.x + 1) met []
    c.requires.reached whole (ends_there s c.args.column met c.requires.reached) c.requires.passed c.loop-p.invariant)
