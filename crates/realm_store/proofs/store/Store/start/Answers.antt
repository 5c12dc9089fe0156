use Rattle.std.proofs.Common.{◌∙◌, ap, sym, subst, Err}
use Rattle.std.proofs.lemmas.Result.{err_from_is_err_and}
use Rattle.outside_world.proofs.GoingOn.{goes_on_then}
use Rattle.realm_store.specs.Starting.{Started}
use Rattle.realm_store.proofs.Starts.{no_base, based, started, unopened, rests_read}
use Rattle.realm_store.proofs.store.Store.start.Goals as goal

-- the payload of the newest isn't opened,
pub returns-in_err-base-clause-told : goal.returns-in_err-base-clause-told
returns-in_err-base-clause-told g c = λ t.
    let one = c.in_err-base.ensures in
    let (why, is, gives) = err_from_is_err_and c.from_residual.result c.from_residual.ensures.1 in
    let first = one.told t in
    subst (λ r. Started (g.W.Outside.view c.args.world.now) (g.W.Outside.view c.open_base.new.world) r) (sym (is ∙ ap (λ e. Err e) gives))
    (no_base first.found.asks (λ a left. g.met.W.Outside.only_now c.args.world.now a (one.goes_on.tells t) left)
    (λ a left. g.met.W.Outside.only_now c.open_base.new.world a t left) _ first)

-- or its records aren't made again,
pub returns-in_err-opened-clause-told : goal.returns-in_err-opened-clause-told
returns-in_err-opened-clause-told g c = λ t.
    let two = c.in_err-opened.ensures in
    let t1 = two.goes_on.tells t in
    let one = c.in_ok-base.ensures in
    let (why, is, gives) = err_from_is_err_and c.from_residual-in_err-opened.result c.from_residual-in_err-opened.ensures.1 in
    let first = one.told t1 in
    subst (λ r. Started (g.W.Outside.view c.args.world.now) (g.W.Outside.view c.open_behind.new.world) r) (sym (is ∙ ap (λ e. Err e) gives))
    (unopened first (λ a left. g.met.W.Outside.only_now c.args.world.now a (one.goes_on.tells t1) left)
    (λ a left. g.met.W.Outside.only_now c.open_behind.new.world a t left) _ (two.told t (based first)))

-- or both are
pub returns-clause-told : goal.returns-clause-told
returns-clause-told g c = λ t.
    let two = c.in_ok-opened.ensures in
    let t1 = two.goes_on.tells t in
    let one = c.in_ok-base.ensures in
    let first = one.told t1 in
    started first (λ a left. g.met.W.Outside.only_now c.args.world.now a (one.goes_on.tells t1) left)
    (λ a left. g.met.W.Outside.only_now c.open_behind.new.world a t left) (two.told t (based first))

-- so whatever a crash may leave is what was read
pub returns-clause-rest : goal.returns-clause-rest
returns-clause-rest g c = λ t.
    let two = c.in_ok-opened.ensures in
    let first = c.in_ok-base.ensures.told (two.goes_on.tells t) in
    rests_read first (two.told t (based first))

pub returns-clause-goes_on : goal.returns-clause-goes_on
returns-clause-goes_on g c = goes_on_then c.in_ok-base.ensures.goes_on c.in_ok-opened.ensures.goes_on
