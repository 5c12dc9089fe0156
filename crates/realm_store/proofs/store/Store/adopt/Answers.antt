use Rattle.std.proofs.Common.{◌+◌, sym, ap, subst}
use Rattle.realm_store.specs.Keeping.{SpendableKept, AllRest}
use Rattle.realm_store.specs.Committing.{IsReplaced}
use Rattle.realm_store.specs.Adopting.{Adopts}
use Rattle.realm_store.proofs.Checkpoints.{is_next, put_from, adopts}
use Rattle.realm_store.proofs.store.Store.adopt.Goals as goal

-- the generation isn't whole yet
pub returns-in_err-put_state-in-Ok-clause-cut_off : goal.returns-in_err-put_state-in-Ok-clause-cut_off
returns-in_err-put_state-in-Ok-clause-cut_off g c = λ is t.
    let was = c.self.inside.engine.state in
    let now = c.in-Ok.engine.state in
    let group = c.self.inside.group in
    let taken = c.in-Ok.ensures in
    let one = c.in_err-put_state-in-Ok.ensures in
    let pages = c.in_ok-pages-in-Ok.ensures in
    let next = is_next was now group c.self.view_is c.requires.alone (ap (λ n. n + 1) c.generation_of-generation.ensures) pages.pages
    pages.opens in
    let put = put_from was now group c.self.view_is c.requires.alone (c.requires.rest (one.goes_on.tells t)) (one.told t next) in
    (_, adopts was now group c.self.view_is c.requires.alone c.args.s taken.may taken.state taken.sound pages.pages, put.replaced)

-- or the new state rests behind it
pub returns-in_ok-put_state-in-Ok-clause-adopted : goal.returns-in_ok-put_state-in-Ok-clause-adopted
returns-in_ok-put_state-in-Ok-clause-adopted g c =
    let taken = c.in-Ok.ensures in
    subst (λ (s : SpendableKept). Adopts c.args.self.now.kept c.args.s s.kept) (sym c.in_ok-put_state-in-Ok.ensures.kept)
    (adopts c.self.inside.engine.state c.in-Ok.engine.state c.self.inside.group c.self.view_is c.requires.alone c.args.s taken.may taken.state
    taken.sound c.in_ok-pages-in-Ok.ensures.pages)

pub returns-in_ok-put_state-in-Ok-clause-rest : goal.returns-in_ok-put_state-in-Ok-clause-rest
returns-in_ok-put_state-in-Ok-clause-rest g c = λ t.
    let was = c.self.inside.engine.state in
    let now = c.in-Ok.engine.state in
    let group = c.self.inside.group in
    let one = c.in_ok-put_state-in-Ok.ensures in
    let pages = c.in_ok-pages-in-Ok.ensures in
    let next = is_next was now group c.self.view_is c.requires.alone (ap (λ n. n + 1) c.generation_of-generation.ensures) pages.pages
    pages.opens in
    subst (λ (s : SpendableKept). AllRest s.kept (g.W.Outside.view c.put_state.new.world)) (sym one.kept)
    (put_from was now group c.self.view_is c.requires.alone (c.requires.rest (one.goes_on.tells t)) (one.told t next)).rest

pub returns-in_ok-put_state-in-Ok-clause-replaced : goal.returns-in_ok-put_state-in-Ok-clause-replaced
returns-in_ok-put_state-in-Ok-clause-replaced g c = λ t.
    let was = c.self.inside.engine.state in
    let now = c.in-Ok.engine.state in
    let group = c.self.inside.group in
    let one = c.in_ok-put_state-in-Ok.ensures in
    let pages = c.in_ok-pages-in-Ok.ensures in
    let next = is_next was now group c.self.view_is c.requires.alone (ap (λ n. n + 1) c.generation_of-generation.ensures) pages.pages
    pages.opens in
    subst (λ (s : SpendableKept). IsReplaced (g.W.Outside.view c.args.world.now) (g.W.Outside.view c.put_state.new.world) c.args.self.now.kept
    s.kept) (sym one.kept)
    (put_from was now group c.self.view_is c.requires.alone (c.requires.rest (one.goes_on.tells t)) (one.told t next)).replaced
