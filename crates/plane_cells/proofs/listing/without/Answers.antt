use Rattle.std.proofs.Common.{◌+◌, Contains, take, sym, ap, subst, ◌∙◌}
use Rattle.std.proofs.lemmas.List.{take_all}
use Rattle.std.proofs.lemmas.Bool.{true≢false}
use Rattle.grid_base.specs.Segment.{GridSegment}
use Rattle.plane_cells.proofs.Kept.{AreKept, kept_with, kept_without}
use Rattle.plane_cells.proofs.listing.without.Goals as goal
use Rattle.plane_cells.proofs.listing.without.Goals.{then-not-has+in_ok-push, else-not-has}

-- the segment at hand is kept where the other list hasn't it
pub loop-s-preserved : goal.loop-s-preserved
loop-s-preserved c =
    let P = λ (s : GridSegment). ¬ Contains c.args.other.now s in
    let list = c.args.list.now in
    let i = c.loop-s.s-index in
    let kept = c.loop-s.kept.items in
    elim c.if-not-has.branch [
      | then-not-has+in_ok-push w ↦
          subst (AreKept P (take (i + 1) list)) (sym (ap (λ v. v.items) w.kept-is ∙ w.in_ok-push.ensures.items))
          (kept_with P list kept i c.s-item.result c.loop-s-test.true c.s-item.is c.loop-s.invariant c.requires.list_ascending
          (λ there. true≢false (sym (c.has.ensures.1 there) ∙ w.if-not-has.true)))
      | else-not-has w ↦
          subst (AreKept P (take (i + 1) list)) (sym (ap (λ v. v.items) w.kept-is))
          (kept_without P list kept i c.s-item.result c.loop-s-test.true c.s-item.is c.loop-s.invariant
          (λ apart. apart (c.has.ensures.0 w.if-not-has.false)))
    ]

pub returns-clause-ascending : goal.returns-clause-ascending
returns-clause-ascending c = c.loop-s.invariant.ascending

pub returns-clause-members : goal.returns-clause-members
returns-clause-members c =
    (subst (λ l. AreKept (λ s. ¬ Contains c.args.other.now s) l c.loop-s.kept.items)
    (take_all c.loop-s.s-index c.args.list.now c.loop-s-test.false)
    c.loop-s.invariant).members
