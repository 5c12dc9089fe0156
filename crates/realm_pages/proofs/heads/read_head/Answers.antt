use Rattle.std.proofs.Common.{take, ap, sym, subst, ◌∙◌, Err}
use Rattle.std.proofs.lemmas.Result.{err_from_is_err_and}
use Rattle.realm_pages.specs.Choosing.{HeadRead}
use Rattle.realm_pages.proofs.Choices.{head_read, head_lacks}
use Rattle.realm_pages.proofs.heads.read_head.Goals as goal

-- the file counts and lacks a head,
pub returns-in_err-head_in-clause-told : goal.returns-in_err-head_in-clause-told
returns-in_err-head_in-clause-told g c = λ t.
    let read = c.in_ok-read.ensures.told t in
    let whole = (g.W.Outside.view c.args.world.now).reads c.args.file in
    let (y, is, gives) = err_from_is_err_and c.from_residual-in_err-head_in.result c.from_residual-in_err-head_in.ensures.1 in
    let lacks = head_lacks read (c.in_err-head_in.ensures.head whole (read.bytes ∙ ap (λ n. take n whole) c.read_at.auto.buf)) in
    subst (λ r. HeadRead (g.W.Outside.view c.args.world.now) (g.W.Outside.view c.read_at.new.self) c.args.file r)
    (sym (is ∙ ap (λ e. Err e) gives)) lacks

-- or its head is known
pub returns-clause-told : goal.returns-clause-told
returns-clause-told g c = λ t.
    let read = c.in_ok-read.ensures.told t in
    let whole = (g.W.Outside.view c.args.world.now).reads c.args.file in
    head_read read (c.in_ok-head_in.ensures.head whole (read.bytes ∙ ap (λ n. take n whole) c.read_at.auto.buf))
