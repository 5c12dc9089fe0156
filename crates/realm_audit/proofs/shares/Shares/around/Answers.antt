use Rattle.realm_audit.proofs.Searches.{none_yet, fewer_left}
use Rattle.realm_audit.proofs.shares.Shares.around.Goals as goal

-- no share stands before the first place
pub loop-list-init : goal.loop-list-init
loop-list-init c = rw c.new-list.ensures.items
    (none_yet c.args.self.now c.args.bounds.now c.fence-at.result c.fence-at.ensures)

-- each search passes a share
pub loop-list-smaller : goal.loop-list-smaller
loop-list-smaller c =
    let went = rw c.in-Some.is at c.in_ok-place.ensures in
    fewer_left c.args.self.now c.loop-list.at c.in-Some.place went.on
