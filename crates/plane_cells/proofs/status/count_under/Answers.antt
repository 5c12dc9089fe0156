use Rattle.std.proofs.Common.{refl, ◌/◌, ◌-◌, ◌+◌, false, IsTrue, sym, subst}
use Rattle.grid_base.specs.Segment.{GridSegment}
use Rattle.plane_cells.specs.Scan.{IsUnderBegin}
use Rattle.plane_cells.specs.Numbered.{numbered}
use Rattle.plane_cells.proofs.Parts.{split_up, split_down, middle_low, middle_high}
use Rattle.plane_cells.proofs.status.count_under.Goals as goal

not_true : IsTrue false → ⊥
not_true e = cc

-- the middle one passes, so all up to there do
pub loop-from-preserved-then-is_under : goal.loop-from-preserved-then-is_under
loop-from-preserved-then-is_under c =
    let from = c.loop-from.from in
    let to = c.loop-from.to in
    split_up (λ i. IsUnderBegin (numbered c.args.border.now i) c.args.t.now) c.args.status.now from to (from + (to - from) / 2) c.loop-from.invariant
    (middle_high from to c.loop-from-test.true) c.requires.sorted
    (subst (λ (s : GridSegment). IsUnderBegin s c.args.t.now) c.segment_at.ensures (c.if-is_under.ensures.0 refl))

-- the middle one doesn't, so none from there on does
pub loop-from-preserved : goal.loop-from-preserved
loop-from-preserved c =
    let from = c.loop-from.from in
    let to = c.loop-from.to in
    split_down (λ i. IsUnderBegin (numbered c.args.border.now i) c.args.t.now) c.args.status.now from to (from + (to - from) / 2) c.loop-from.invariant
    (middle_low from to c.loop-from-test.true) (middle_high from to c.loop-from-test.true) c.requires.sorted
    (λ t. not_true (c.if-is_under.ensures.1 (subst (λ (s : GridSegment). IsUnderBegin s c.args.t.now) (sym c.segment_at.ensures) t)))
