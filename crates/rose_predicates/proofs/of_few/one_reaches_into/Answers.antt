use Rattle.std.proofs.Common.{All, subst, arith}
use Rattle.std.proofs.lemmas.List.{take_all}
use Rattle.std.proofs.lemmas.List.Elements.{All-more, Contains-append_left}
use Rattle.side_parity.proofs.Each.{ordered_in}
use Rattle.rose_overlay.proofs.Picks.{at_place}
use Rattle.rose_predicates.proofs.LinesAndRegions.{StaysOut, laid, none_reaches, reach_by}
use Rattle.rose_predicates.proofs.PointSets.{noded_second}
use Rattle.rose_predicates.proofs.Truths.{always, never, not_held}
use Rattle.rose_predicates.proofs.of_few.one_reaches_into.Goals as goal

-- the segment at hand and the border are segments of the one realm
pub crosses_region-requires-clause-noded : goal.crosses_region-requires-clause-noded
crosses_region-requires-clause-noded c =
    let lines = c.args.lines.now in
    let s = c.s-item.result in
    noded_second lines c.args.border.now s c.requires.noded
    (Contains-append_left lines c.args.border.now s (at_place lines c.loop-s.s-index s c.loop-s-test.true c.s-item.is))

-- their lesser ends come first
pub crosses_region-requires-clause-ordered : goal.crosses_region-requires-clause-ordered
crosses_region-requires-clause-ordered c =
    let lines = c.args.lines.now in
    let s = c.s-item.result in (
      ordered_in lines s c.lesser_ends_first.ensures (at_place lines c.loop-s.s-index s c.loop-s-test.true c.s-item.is),
      c.lesser_ends_first-2.ensures,
    )

-- the middle of the segment at hand is in the area
pub returns-then-crosses_region : goal.returns-then-crosses_region
returns-then-crosses_region c =
    let lines = c.args.lines.now in
    let border = c.args.border.now in
    let s = c.s-item.result in
    let h = laid lines border c.requires.noded c.requires.border c.lesser_ends_first.ensures c.lesser_ends_first-2.ensures in
    let both = c.crosses_region.ensures.0 c.if-crosses_region.true in
    always (reach_by lines border s h (at_place lines c.loop-s.s-index s c.loop-s-test.true c.s-item.is) both.0 both.1)

-- the next one too
pub loop-s-preserved : goal.loop-s-preserved
loop-s-preserved c =
    let P = StaysOut c.args.border.now in
    All-more P c.args.lines.now c.loop-s.s-index c.s-item.result (omega arith) c.loop-s.invariant
    (subst P c.s-item.is (not_held c.crosses_region.ensures c.if-crosses_region.false))

-- all lines are gone through
pub returns : goal.returns
returns c =
    let lines = c.args.lines.now in
    let border = c.args.border.now in
    let h = laid lines border c.requires.noded c.requires.border c.lesser_ends_first.ensures c.lesser_ends_first-2.ensures in
    never (none_reaches lines border h (subst (All (StaysOut border)) (take_all c.loop-s.s-index lines (omega arith)) c.loop-s.invariant))
