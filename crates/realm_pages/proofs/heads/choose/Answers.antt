use Rattle.std.proofs.Common.{◌≡◌, ap, sym, subst, ◌∙◌, Err}
use Rattle.std.proofs.lemmas.Result.{err_from_is_err_and}
use Rattle.realm_pages.specs.Choosing.{Chosen}
use Rattle.realm_pages.proofs.Choices.{lacks_in_a, lacks_in_b, b_head, twins, chosen}
use Rattle.realm_pages.proofs.heads.choose.Goals as goal

-- a head of A lacks,
pub returns-in_err-a-clause-told : goal.returns-in_err-a-clause-told
returns-in_err-a-clause-told g c = λ t.
    let (y, is, gives) = err_from_is_err_and c.from_residual.result c.from_residual.ensures.1 in
    let same : Err c.in_err-a.field-0.0 ≡ c.from_residual.result = cc in
    subst (λ r. Chosen (g.W.Outside.view c.args.world.now) (g.W.Outside.view c.read_head.new.world) r) same
    (lacks_in_a (c.in_err-a.ensures.told t))

-- or one of B,
pub returns-in_err-b-clause-told : goal.returns-in_err-b-clause-told
returns-in_err-b-clause-told g c = λ t.
    let two = c.in_err-b.ensures in
    let first = c.in_ok-a.ensures.told (two.goes_on.tells t) in
    let (y, is, gives) = err_from_is_err_and c.from_residual-in_err-b.result c.from_residual-in_err-b.ensures.1 in
    let same : Err c.in_err-b.field-0.0 ≡ c.from_residual-in_err-b.result = cc in
    subst (λ r. Chosen (g.W.Outside.view c.args.world.now) (g.W.Outside.view c.read_head-2.new.world) r) same
    (lacks_in_b first (two.told t))

-- or both count with one generation,
pub returns-in_err-newer-clause-told : goal.returns-in_err-newer-clause-told
returns-in_err-newer-clause-told g c = λ t.
    let two = c.in_ok-b.ensures in
    let first = c.in_ok-a.ensures.told (two.goes_on.tells t) in
    let second = two.told t in
    let files = (g.W.Outside.view c.args.world.now).reads in
    let (y, is, gives) = err_from_is_err_and c.from_residual-in_err-newer.result c.from_residual-in_err-newer.ensures.1 in
    subst (λ r. Chosen (g.W.Outside.view c.args.world.now) (g.W.Outside.view c.read_head-2.new.world) r) (sym (is ∙ ap (λ e. Err e) gives))
    (twins first second (c.in_err-newer.ensures.choice files first.head (b_head first second)))

-- or one is chosen
pub returns-clause-told : goal.returns-clause-told
returns-clause-told g c = λ t.
    let two = c.in_ok-b.ensures in
    let first = c.in_ok-a.ensures.told (two.goes_on.tells t) in
    let second = two.told t in
    let files = (g.W.Outside.view c.args.world.now).reads in
    chosen first second (c.in_ok-newer.ensures.choice files first.head (b_head first second))
