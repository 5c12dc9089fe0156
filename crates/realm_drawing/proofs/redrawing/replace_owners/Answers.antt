use Rattle.std.proofs.Common.{get_or, take_all}
use Rattle.std.proofs.lemmas.List.{get_or_default}
use Rattle.realm_drawing.proofs.Owners.{none_owned, owners_next}
use Rattle.realm_drawing.proofs.redrawing.replace_owners.Goals as goal

-- no owner yet
pub loop-id-init : goal.loop-id-init
loop-id-init c = none_owned c.args.step.now c.args.originals.now c.args.list.now.items

-- one owner more
pub loop-id-preserved : goal.loop-id-preserved
loop-id-preserved c =
    let ids = c.args.owners.now in
    let i = c.loop-id.id-index in
    let id = get_or ids i 0 in
    owners_next c.args.step.now c.args.originals.now ids i id _ _ _ c.loop-id-test.true
    (get_or_default ids i 0 id c.loop-id-test.true) c.loop-id.invariant c.in_ok-replace_owner.ensures

-- at the end all of them
pub returns : goal.returns
returns c =
    let past = c.loop-id-test.false in
    rw take_all at c.loop-id.invariant
