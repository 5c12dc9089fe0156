use Rattle.std.proofs.Common.{get_or, take_all}
use Rattle.std.proofs.lemmas.List.{get_or_default}
use Rattle.realm_drawing.specs.Shares.{Held}
use Rattle.realm_drawing.proofs.OwnerShares.{lists_next_owner, lists_unheld}
use Rattle.realm_drawing.proofs.shares.gained_of.Goals as goal

-- the share of one owner more, unless it is held
pub loop-id-preserved : goal.loop-id-preserved
loop-id-preserved c =
    let r = c.args.registry.now in
    let link = c.args.link.now in
    let ids = c.args.owners.now in
    let i = c.loop-id.id-index in
    let x = get_or ids i 0 in
    let had = c.owners_of-had in
    let new = lists_unheld r _ _ link had.result.now x had.ensures.owners c.in_ok-list_new.ensures.ok in
    let here = get_or_default ids i 0 x c.loop-id-test.true in
    lists_next_owner (λ y. ¬ Held r y) _ _ _ link ids i x c.loop-id-test.true here c.loop-id.invariant new

-- at the end those of all owners
pub returns : goal.returns
returns c =
    let past = c.loop-id-test.false in
    record { ok = rw take_all at c.loop-id.invariant }
