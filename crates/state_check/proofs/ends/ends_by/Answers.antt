use Rattle.state_check.proofs.PartEnds.{ends_of_chain}
use Rattle.state_check.proofs.ends.ends_by.Goals as goal

-- the chain leads from end to end
pub returns : goal.returns
returns c =
    ends_of_chain c.args.drawing.now.drawing c.args.id c.in_ok-points.points.now c.in_ok-points.ensures.chain
    c.in_ok-points.ensures.stand c.index-points-0.result c.index-points-points.result c.index-points-0.is c.index-points-points.is
