-- The ids begin at 1, and all are below the next one.
use Rattle.std.proofs.Common.{◌≡◌, ◌+◌, true, false, sym, ap, ◌∙◌, arith}
use Rattle.hook_chain.specs.Ids.{LacksId}
use Rattle.state_counts.proofs.IdsBelow.{ids_below, ids_below-none, ids_below-all, ids_below-lacks, ids_below-has}
use Rattle.state_counts.proofs.originals.count_originals.Goals as goal
use Rattle.state_counts.proofs.originals.count_originals.Goals.{then-not-lacks_id, else-not-lacks_id}

pub loop-id-init : goal.loop-id-init
loop-id-init c = (sym (ids_below-none 1 c.args.drawing.now.drawing.originals (λ k d h. (c.requires.below k d h).0)), omega arith)

pub loop-id-preserved : goal.loop-id-preserved
loop-id-preserved c =
    let os = c.args.drawing.now.drawing.originals in
    let apart : LacksId os c.loop-id.id → c.lacks_id.result ≡ false → ⊥ =
    λ lacks no. let yes : c.lacks_id.result ≡ true = c.lacks_id.ensures.lacks.1 lacks in cc in
    elim c.if-not-lacks_id.branch [
      | then-not-lacks_id w ↦ let more = ids_below-has c.loop-id.id os c.lacks_id.ensures.rising
          (λ lacks. apart lacks w.if-not-lacks_id.true) in
          (w.count-is ∙ ap (λ n. n + 1) c.loop-id.invariant.0 ∙ sym more, omega (arith, w.count-is, c.loop-id.invariant.1))
      | else-not-lacks_id w ↦ let same = ids_below-lacks c.loop-id.id os (c.lacks_id.ensures.lacks.0 w.if-not-lacks_id.false) in
          (w.count-is ∙ c.loop-id.invariant.0 ∙ sym same, omega (arith, w.count-is, c.loop-id.invariant.1))
    ]

pub returns : goal.returns
returns c =
    let all = ids_below-all c.args.next_id c.args.drawing.now.drawing.originals (λ k d h. (c.requires.below k d h).1) in
    let end : c.loop-id.id ≡ c.args.next_id = omega (arith, c.requires.least) in
    c.loop-id.invariant.0 ∙ ap (λ n. ids_below n c.args.drawing.now.drawing.originals) end ∙ all
