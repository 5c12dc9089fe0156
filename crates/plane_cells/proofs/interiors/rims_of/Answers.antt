use Rattle.std.proofs.Common.{◌∙◌, ◌≤◌, sym, ap, length, arith}
use Rattle.std.proofs.lemmas.List.{take_all}
use Rattle.plane_cells.specs.Rims.{rims}
use Rattle.plane_cells.proofs.RimCounts.{rims_with, rims_without}
use Rattle.plane_cells.proofs.interiors.rims_of.Goals as goal
use Rattle.plane_cells.proofs.interiors.rims_of.Goals.{then-has_one_outer+in_ok-push, else-has_one_outer}

-- the segment at hand is listed where it is a rim
pub loop-i-preserved : goal.loop-i-preserved
loop-i-preserved c = elim c.if-has_one_outer.branch [
  | then-has_one_outer+in_ok-push w ↦
      rims_with c.args.border.now c.args.numbers.now c.loop-i.i w.index-border-i.result c.loop-i.list.items c.if-has_one_outer.list.items
      c.requires c.loop-i-test.true w.index-border-i.is (sym c.has_one_outer.ensures ∙ w.if-has_one_outer.true) c.loop-i.invariant
      (ap (λ v. v.items) w.list-is ∙ w.in_ok-push.ensures.items)
  | else-has_one_outer w ↦
      ap (λ v. v.items) w.list-is
      ∙ rims_without c.args.border.now c.args.numbers.now c.loop-i.i c.loop-i.list.items c.requires c.loop-i-test.true
      (sym c.has_one_outer.ensures ∙ w.if-has_one_outer.false) c.loop-i.invariant
]

-- all are gone through
pub returns : goal.returns
returns c =
    let all : length c.args.numbers.now ≤ c.loop-i.i = omega (arith, c.requires, c.loop-i-test.false) in
    c.loop-i.invariant
    ∙ (λ j. rims (take_all c.loop-i.i c.args.border.now c.loop-i-test.false j) (take_all c.loop-i.i c.args.numbers.now all j))
