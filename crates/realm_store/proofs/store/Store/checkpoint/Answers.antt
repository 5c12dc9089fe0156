use Rattle.std.proofs.Common.{◌+◌, sym, ap, subst}
use Rattle.realm_store.specs.Keeping.{SpendableKept, AllRest}
use Rattle.realm_store.specs.Committing.{IsReplaced}
use Rattle.realm_store.specs.Renewing.{IsRenewed}
use Rattle.realm_store.proofs.Checkpoints.{is_next, put_from, renewed}
use Rattle.realm_store.proofs.store.Store.checkpoint.Goals as goal

-- the generation isn't whole yet
pub returns-in_err-put_state-clause-cut_off : goal.returns-in_err-put_state-clause-cut_off
returns-in_err-put_state-clause-cut_off g c = λ is t.
    let state = c.self.inside.engine.state in
    let group = c.self.inside.group in
    let one = c.in_err-put_state.ensures in
    let pages = c.in_ok-pages.ensures in
    let next = is_next state state group c.self.view_is c.requires.alone (ap (λ n. n + 1) c.generation_of-generation.ensures) pages.pages
    pages.opens in
    let put = put_from state state group c.self.view_is c.requires.alone (c.requires.rest (one.goes_on.tells t)) (one.told t next) in
    (_, renewed state group c.self.view_is next, put.replaced)

-- or all rests behind it
pub returns-clause-renewed : goal.returns-clause-renewed
returns-clause-renewed g c =
    let state = c.self.inside.engine.state in
    let group = c.self.inside.group in
    let pages = c.in_ok-pages.ensures in
    let next = is_next state state group c.self.view_is c.requires.alone (ap (λ n. n + 1) c.generation_of-generation.ensures) pages.pages
    pages.opens in
    subst (λ (s : SpendableKept). IsRenewed c.args.self.now.kept s.kept) (sym c.in_ok-put_state.ensures.kept)
    (renewed state group c.self.view_is next)

pub returns-clause-rest : goal.returns-clause-rest
returns-clause-rest g c = λ t.
    let state = c.self.inside.engine.state in
    let group = c.self.inside.group in
    let one = c.in_ok-put_state.ensures in
    let pages = c.in_ok-pages.ensures in
    let next = is_next state state group c.self.view_is c.requires.alone (ap (λ n. n + 1) c.generation_of-generation.ensures) pages.pages
    pages.opens in
    subst (λ (s : SpendableKept). AllRest s.kept (g.W.Outside.view c.put_state.new.world)) (sym one.kept)
    (put_from state state group c.self.view_is c.requires.alone (c.requires.rest (one.goes_on.tells t)) (one.told t next)).rest

pub returns-clause-replaced : goal.returns-clause-replaced
returns-clause-replaced g c = λ t.
    let state = c.self.inside.engine.state in
    let group = c.self.inside.group in
    let one = c.in_ok-put_state.ensures in
    let pages = c.in_ok-pages.ensures in
    let next = is_next state state group c.self.view_is c.requires.alone (ap (λ n. n + 1) c.generation_of-generation.ensures) pages.pages
    pages.opens in
    subst (λ (s : SpendableKept). IsReplaced (g.W.Outside.view c.args.world.now) (g.W.Outside.view c.put_state.new.world) c.args.self.now.kept
    s.kept) (sym one.kept)
    (put_from state state group c.self.view_is c.requires.alone (c.requires.rest (one.goes_on.tells t)) (one.told t next)).replaced
