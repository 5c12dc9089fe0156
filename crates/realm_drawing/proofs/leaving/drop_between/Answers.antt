use Rattle.realm_drawing.proofs.LostShares.{loses_between}
use Rattle.realm_drawing.proofs.leaving.drop_between.Goals as goal

-- the segment that was made is the one between the points
pub returns-in-Some-clause-owners : goal.returns-in-Some-clause-owners
returns-in-Some-clause-owners c =
    let made = c.in-Some in
    loses_between _ _ made.piece c.args.id _ _ made.ensures.none made.ensures.ends c.drop_shares.ensures.owners
