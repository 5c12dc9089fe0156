use Rattle.std.proofs.Common.{subst, ◌∙◌}
use Rattle.hook_chain.specs.Redrawing.{redrawn}
use Rattle.realm_drawing.specs.Redraws.{Becomes}
use Rattle.realm_drawing.proofs.NewChains.{becomes_twice}
use Rattle.realm_drawing.proofs.redrawing.redrawn.Goals as goal

-- the second path comes into the chain that the first made
pub returns : goal.returns
returns c =
    let step = c.args.step.now in
    let points = c.args.points.now in
    let once = subst (Becomes points (redrawn step.first.piece step.first.path points)) c.in-Some-once.is
    c.in_ok-once.ensures in
    let twice = rw c.points.ensures at c.in_ok-twice.ensures in
    c.unwrap_or.ensures
    ∙ becomes_twice step c.in-Some.second points c.in-Some-once.chain c.in_ok-twice.twice c.in-Some.is once twice
