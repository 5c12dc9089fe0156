use Rattle.std.proofs.Common.{◌∙◌, ap, refl, sym, subst, Ok, Err}
use Rattle.std.proofs.lemmas.Result.{err_from_is_err_and}
use Rattle.realm_insert.specs.State.{SpendableState}
use Rattle.realm_store.specs.Opening.{BaseFound}
use Rattle.realm_store.proofs.Bases.{newest_unfound, none_found, found_behind}
use Rattle.realm_store.proofs.opening.find_base.Goals as goal

-- the newest isn't found,
pub returns-in_err-newest-clause-told : goal.returns-in_err-newest-clause-told
returns-in_err-newest-clause-told g c = λ t.
    let (why, is, gives) = err_from_is_err_and c.from_residual.result c.from_residual.ensures.1 in
    subst (λ r. BaseFound (g.W.Outside.view c.args.world.now) (g.W.Outside.view c.newest.new.world) r) (sym (is ∙ ap (λ e. Err e) gives))
    (newest_unfound _ (c.in_err-newest.ensures.told t))

-- or none counts,
pub returns-in-None-clause-told : goal.returns-in-None-clause-told
returns-in-None-clause-told g c = λ t.
    none_found (c.in_ok-newest.ensures.told t) (ap Ok c.in-None.is)
    (ap (λ (s : SpendableState). s.state) c.new.ensures) refl

-- or it is, and opened
pub returns-in-Some-clause-told : goal.returns-in-Some-clause-told
returns-in-Some-clause-told g c = λ t.
    found_behind (c.in_ok-newest.ensures.told t) (ap Ok c.in-Some.is) c.open_found.ensures.base c.open_found.ensures.damaged
