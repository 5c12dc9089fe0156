use Rattle.std.proofs.Common.{◌∙◌, ◌+◌, [], map, sym, false, true≢false, arith}
use Rattle.std.specs.Map.Iter.{deref}
use Rattle.grid_base.specs.Point.{InBox}
use Rattle.chain_laws.proofs.PointSets.{out_of_box_fails}
use Rattle.realm_drawing.proofs.Stops.{jumps_there, ends_there}
use Rattle.realm_drawing.proofs.Scans.{lent_to, lent_all, listed_before, one_more_met}
use Rattle.realm_drawing.proofs.explicit.ExplicitPoints.list_from.Goals as goal

-- what isn't in the box adds nothing
pub loop-p-preserved : goal.loop-p-preserved
loop-p-preserved c =
    let s = c.args.s.now in
    let out : InBox s.a s.b c.in-Some.p.now → ⊥ = λ inside. true≢false (sym (c.in_box.ensures.1 inside) ∙ c.if-in_box.false) in
    one_more_met s c.loop-p.yielded c.in-Some.p c.args.list.now.items c.loop-p.list.items false
    (out_of_box_fails s.a s.b c.in-Some.p.now out) c.loop-p.invariant

-- at a jump the columns before the next one are listed
pub returns-then-spare-eq0 : goal.returns-then-spare-eq0
returns-then-spare-eq0 c =
    let s = c.args.s.now in
    let points = c.args.self.now in
    let ascend = c.scan_from-p-items.ensures.ascending in
    let out : InBox s.a s.b c.in-Some.p.now → ⊥ = λ inside. true≢false (sym (c.in_box.ensures.1 inside) ∙ c.if-in_box.false) in
    let start = c.into_iter-p-iterator.ensures.into_iter_gives ∙ c.scan_from-p-items.ensures.rest in
    let whole = lent_to _ _ _ _ c.loop-p.yielded _ c.in-Some.p start c.loop-p.yielded_by c.in-Some.is c.next.ensures.steps in
    let jumps = jumps_there points s c.args.column c.in-Some.p.now c.column_after.result (map deref c.loop-p.yielded) _
    ascend c.requires.reached whole out c.column_after.ensures in (
      jumps.0,
      listed_before points s c.args.column c.column_after.result (map deref c.loop-p.yielded) _ c.args.list.now.items
          c.loop-p.list.items ascend c.requires.reached (omega (arith, jumps.0.behind)) whole jumps.1 c.requires.listed
          c.loop-p.invariant,
    )

-- at the end all are
pub returns : goal.returns
returns c =
    let s = c.args.s.now in
    let met = map deref c.loop-p.yielded in
    let start = c.into_iter-p-iterator.ensures.into_iter_gives ∙ c.scan_from-p-items.ensures.rest in
    let whole = lent_all _ _ _ _ c.loop-p.yielded _ start c.loop-p.yielded_by c.in-None.is c.next.ensures.steps in
    listed_before c.args.self.now s c.args.column (s.b.x + 1) met [] c.args.list.now.items c.loop-p.list.items
    c.scan_from-p-items.ensures.ascending c.requires.reached (omega (arith, c.requires.reached.to_b)) whole
    (ends_there s c.args.column met c.requires.reached) c.requires.listed c.loop-p.invariant
