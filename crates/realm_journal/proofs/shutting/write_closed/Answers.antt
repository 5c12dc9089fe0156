use Rattle.realm_journal.proofs.ShutGates.{shut_part, shut_written, shut_synced, shut_whole}
use Rattle.realm_journal.proofs.shutting.write_closed.Goals as goal

-- the write failed: in each outcome of it the gate lets nothing count that couldn't before
pub returns-in_err-write_at-clause-told : goal.returns-in_err-write_at-clause-told
returns-in_err-write_at-clause-told g c = λ t.
    let one = c.in_err-write_at.ensures in
    let world = c.args.world.now in
    let t1 = one.still t in
    let current = g.met.W.Outside.reads_an_image world c.args.file t1 in
    shut_part c.from_residual.result c.from_residual.ensures.0
    (shut_written (g.met.W.Outside.byte_by_byte world t1) current (c.requires.needed t1) (one.told t))

-- the sync failed, which adds no outcome
pub returns-in_err-sync-clause-told : goal.returns-in_err-sync-clause-told
returns-in_err-sync-clause-told g c = λ t.
    let one = c.in_ok-write_at.ensures in
    let two = c.in_err-sync.ensures in
    let world = c.args.world.now in
    let t2 = two.still t in
    let t1 = one.still t2 in
    let current = g.met.W.Outside.reads_an_image world c.args.file t1 in
    shut_part c.from_residual-in_err-sync.result c.from_residual-in_err-sync.ensures.0
    (shut_synced (g.met.W.Outside.byte_by_byte world t1) current (c.requires.needed t1) (one.told t2) (two.told t))

-- the gate is closed in every outcome
pub returns-clause-told : goal.returns-clause-told
returns-clause-told g c = λ t.
    let one = c.in_ok-write_at.ensures in
    let two = c.in_ok-sync.ensures in
    let world = c.args.world.now in
    let t2 = two.still t in
    let t1 = one.still t2 in
    let current = g.met.W.Outside.reads_an_image world c.args.file t1 in
    shut_whole (g.met.W.Outside.byte_by_byte world t1) current (c.requires.needed t1) (c.requires.within t1)
    (one.told t2) (two.told t)
