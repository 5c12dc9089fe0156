use Rattle.realm_drawing.proofs.LinkShares.{lists_share_between}
use Rattle.realm_drawing.proofs.shares.share_between.Goals as goal

-- the segment that was made is the one between the points
pub returns-in_ok-push : goal.returns-in_ok-push
returns-in_ok-push c =
    let made = c.in-Some in
    record {
      ok = lists_share_between _ _ made.piece c.args.id _ _ made.ensures.none made.ensures.ends c.in_ok-push.ensures.items;
    }
