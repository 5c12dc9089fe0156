use Rattle.std.proofs.Common.{◌≡◌, subst, Err, Ok}
use Rattle.std.proofs.lemmas.Result.{err_from_is_err_and}
use Rattle.realm_pages.specs.Choosing.{Chosen}
use Rattle.realm_pages.specs.Finding.{FoundNewest}
use Rattle.realm_pages.proofs.PagesFound.{not_chosen, neither, broken, bad_payload, found}
use Rattle.realm_pages.proofs.reading.newest.Goals as goal

-- a head lacks, or both files have one generation,
pub returns-in_err-choose-clause-told : goal.returns-in_err-choose-clause-told
returns-in_err-choose-clause-told g c = λ t.
    let (y, is, gives) = err_from_is_err_and c.from_residual.result c.from_residual.ensures.1 in
    let same : Err c.in_err-choose.field-0.0 ≡ c.from_residual.result = cc in
    subst (λ r. FoundNewest (g.W.Outside.view c.args.world.now) (g.W.Outside.view c.choose.new.world) r) same
    (not_chosen (c.in_err-choose.ensures.told t))

-- or neither counts,
pub returns-in-None-clause-told : goal.returns-in-None-clause-told
returns-in-None-clause-told g c = λ t.
    let old = g.W.Outside.view c.args.world.now in
    let new = g.W.Outside.view c.choose.new.world in
    neither (subst (λ o. Chosen old new (Ok o)) c.in-None.is (c.in_ok-choose.ensures.told t))

-- or a page is at fault,
pub returns-in_err-payload-in-Some-clause-told : goal.returns-in_err-payload-in-Some-clause-told
returns-in_err-payload-in-Some-clause-told g c = λ t.
    let old = g.W.Outside.view c.args.world.now in
    let mid = g.W.Outside.view c.choose.new.world in
    let two = c.in_err-payload-in-Some.ensures in
    let chosen = subst (λ o. Chosen old mid (Ok o)) c.in-Some.is (c.in_ok-choose.ensures.told (two.goes_on.tells t)) in
    let returned = c.from_residual-in_err-payload-in-Some in
    let (y, is, gives) = err_from_is_err_and returned.result returned.ensures.1 in
    let same : Err c.in_err-payload-in-Some.field-0.0 ≡ c.from_residual-in_err-payload-in-Some.result = cc in
    subst (λ r. FoundNewest old (g.W.Outside.view c.read_pages.new.world) r) same (broken chosen (two.told t))

-- or its payload is that of no state,
pub returns-in-None-2-clause-told : goal.returns-in-None-2-clause-told
returns-in-None-2-clause-told g c = λ t.
    let old = g.W.Outside.view c.args.world.now in
    let mid = g.W.Outside.view c.choose.new.world in
    let two = c.in_ok-payload-in-Some.ensures in
    let chosen = subst (λ o. Chosen old mid (Ok o)) c.in-Some.is (c.in_ok-choose.ensures.told (two.goes_on.tells t)) in
    let read = c.in_ok-decode_snapshot-in-Some in
    bad_payload c.in_ok-payload-in-Some.payload chosen (two.told t) _ c.deref.ensures.value read.field-0 c.in-None-2.is read.ensures.only

-- or the newest is found
pub returns-clause-told : goal.returns-clause-told
returns-clause-told g c = λ t.
    let old = g.W.Outside.view c.args.world.now in
    let mid = g.W.Outside.view c.choose.new.world in
    let two = c.in_ok-payload-in-Some.ensures in
    let chosen = subst (λ o. Chosen old mid (Ok o)) c.in-Some.is (c.in_ok-choose.ensures.told (two.goes_on.tells t)) in
    let read = c.in_ok-decode_snapshot-in-Some in
    found c.in_ok-payload-in-Some.payload chosen (two.told t) _ c.deref.ensures.value read.field-0 _ c.in-Some-2.is read.ensures.found
