use Rattle.std.proofs.Common.{subst}
use Rattle.chain_laws.specs.Redraws.{redrawn_by}
use Rattle.realm_drawing.specs.Redraws.{Becomes}
use Rattle.realm_drawing.proofs.Owners.{replaced_for_id}
use Rattle.realm_drawing.proofs.redrawing.replace_owner.Goals as goal

-- the new chain is what the step makes of the old one
pub returns-in_ok-push : goal.returns-in_ok-push
returns-in_ok-push c =
    let step = c.args.step.now in
    let points = c.in-Some.points.now in
    let made = subst (Becomes points (redrawn_by step points)) c.in-Some-2.is c.in_ok-chain.ensures in
    rw c.in_ok-push.ensures.items
    (replaced_for_id step c.args.originals.now c.args.id points c.in-Some-2.chain c.args.list.now.items
    c.in-Some.ensures.chain made)
