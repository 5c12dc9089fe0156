use Rattle.std.proofs.Common.{ap}
use Rattle.realm_store.specs.Keeping.{SpendableKept}
use Rattle.realm_store.proofs.Checkpoints.{put_then, next_in, put_whole, put_cut}
use Rattle.realm_store.proofs.store.Store.put_state.Goals as goal

-- the generation isn't whole yet
pub returns-in_err-next-clause-told : goal.returns-in_err-next-clause-told
returns-in_err-next-clause-told g c = λ t next before rest.
    let here = ap (λ (s : SpendableKept). s.kept.place) c.self.view_is in
    put_cut c.from_residual.result c.from_residual.ensures.0
    (c.in_err-next.ensures.told t c.args.self.now.kept (next_in c.next_file.ensures here next) before rest)

-- or it is kept
pub returns-clause-told : goal.returns-clause-told
returns-clause-told g c = λ t next before rest.
    let here = ap (λ (s : SpendableKept). s.kept.place) c.self.view_is in
    put_whole (c.in_ok-next.ensures.told t c.args.self.now.kept (next_in c.next_file.ensures here next) before rest)

pub returns-clause-kept : goal.returns-clause-kept
returns-clause-kept g c =
    put_then c.self.inside.engine.state c.self.inside.group c.args.pages.now c.self.view_is c.requires.alone c.next_place.ensures
    c.in_ok-next.ensures.place
