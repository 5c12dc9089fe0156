use Rattle.realm_files.proofs.Renewals.{renewed_by}
use Rattle.realm_store.specs.Stands.{meaning}
use Rattle.realm_store.specs.Keeping.{with_state}
use Rattle.realm_store.proofs.writing.put_next.Goals as goal

-- the generation is put there whole, or the disk failed before that
pub returns-clause-told : goal.returns-clause-told
returns-clause-told g c = λ t kept next before rest.
    let one = c.switch_to.ensures in
    let told = one.told t in
    renewed_by meaning (with_state before kept) rest next.file_is next.version next.number next.opens (λ f. g.met.W.Outside.reads_an_image c.switch_to.new.world f t)
    (λ a may. g.met.W.Outside.counts_now c.switch_to.new.world _ a t told.writes.takes.later may)
    (λ a left. g.met.W.Outside.only_now c.args.world.now a (one.goes_on.tells t) left) told (one.newest t)
