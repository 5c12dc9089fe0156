use Rattle.std.proofs.Common.{true≢false, sym, ◌∙◌}
use Rattle.realm_audit.proofs.CommonBoxes.{clashes_meet}
use Rattle.realm_audit.proofs.fresh.are_clashes.Goals as goal

-- where the boxes don't meet, nothing clashes
pub returns-else-box_meets : goal.returns-else-box_meets
returns-else-box_meets c =
    let apart = c.if-box_meets.false in (
      λ meet. absurd (true≢false (sym meet ∙ apart)),
      λ clash. c.box_meets.ensures.1 (clashes_meet c.args.t.now c.args.u.now clash),
    )
