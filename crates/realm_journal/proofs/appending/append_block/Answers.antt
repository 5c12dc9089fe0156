use Rattle.std.proofs.Common.{◌∷◌, [], arith}
use Rattle.realm_journal.specs.Gates.{open_gate}
use Rattle.realm_journal.proofs.StableFiles.{synced_stable}
use Rattle.realm_journal.proofs.TornGates.{block_of, block_behind, block_front}
use Rattle.realm_journal.proofs.AppendExits.{appended_part, appended_whole, wrote_as}
use Rattle.realm_journal.proofs.AppendExits.{behind_gate, behind_synced, gate_opened, gate_synced, gate_whole}
use Rattle.realm_journal.proofs.appending.append_block.Goals as goal

-- the text is written behind the gate, which is there
pub write_at-requires-clause-within : goal.write_at-requires-clause-within
write_at-requires-clause-within g c = λ t.
    let current = g.met.W.Outside.reads_an_image c.args.world.now c.args.file t in
    omega (arith, (c.requires.gate t _ current).0)

-- the first write failed: the gate is still closed in every outcome of it
pub returns-in_err-write_at-clause-told : goal.returns-in_err-write_at-clause-told
returns-in_err-write_at-clause-told g c = λ t.
    let one = c.in_err-write_at.ensures in
    let shut = c.requires.gate (one.still t) in
    let text = c.args.block.now in
    let first = wrote_as (block_of text) (block_behind _ text c.whole-whole.ensures.whole) (one.told t) in
    appended_part c.from_residual.result c.from_residual.ensures.0 (behind_gate _ _ c.args.file c.args.at text shut _ first)

-- its sync failed, which adds no outcome
pub returns-in_err-sync-clause-told : goal.returns-in_err-sync-clause-told
returns-in_err-sync-clause-told g c = λ t.
    let one = c.in_ok-write_at.ensures in
    let two = c.in_err-sync.ensures in
    let shut = c.requires.gate (one.still (two.still t)) in
    let text = c.args.block.now in
    let first = wrote_as (block_of text) (block_behind _ text c.whole-whole.ensures.whole) (one.told (two.still t)) in
    appended_part c.from_residual-in_err-sync.result c.from_residual-in_err-sync.ensures.0
    (behind_synced _ (g.W.Outside.view c.write_at.new.self) c.args.file c.args.at text shut _ _ _ first (two.told t))

-- the gate was written, and is open or closed
pub returns-in_err-write_at-2-clause-told : goal.returns-in_err-write_at-2-clause-told
returns-in_err-write_at-2-clause-told g c = λ t.
    let one = c.in_ok-write_at.ensures in
    let two = c.in_ok-sync.ensures in
    let three = c.in_err-write_at-2.ensures in
    let t2 = three.still t in
    let t0 = one.still (two.still t2) in
    let shut = c.requires.gate t0 in
    let current = g.met.W.Outside.reads_an_image c.args.world.now c.args.file t0 in
    let text = c.args.block.now in
    let first = wrote_as (block_of text) (block_behind _ text c.whole-whole.ensures.whole) (one.told (two.still t2)) in
    let third = wrote_as (open_gate ∷ []) (block_front _ text c.whole-whole.ensures.whole) (three.told t) in
    appended_part c.from_residual-in_err-write_at-2.result c.from_residual-in_err-write_at-2.ensures.0
    (gate_opened _ (g.W.Outside.view c.write_at.new.self) c.args.file c.args.at text shut current (g.W.Outside.view c.sync.new.self) _
    c.in_ok-write_at.field-0 c.in_ok-sync.field-0 first (two.told t2) _ third)

-- and its sync failed
pub returns-in_err-sync-2-clause-told : goal.returns-in_err-sync-2-clause-told
returns-in_err-sync-2-clause-told g c = λ t.
    let one = c.in_ok-write_at.ensures in
    let two = c.in_ok-sync.ensures in
    let three = c.in_ok-write_at-2.ensures in
    let four = c.in_err-sync-2.ensures in
    let t3 = four.still t in
    let t2 = three.still t3 in
    let t0 = one.still (two.still t2) in
    let shut = c.requires.gate t0 in
    let current = g.met.W.Outside.reads_an_image c.args.world.now c.args.file t0 in
    let text = c.args.block.now in
    let first = wrote_as (block_of text) (block_behind _ text c.whole-whole.ensures.whole) (one.told (two.still t2)) in
    let third = wrote_as (open_gate ∷ []) (block_front _ text c.whole-whole.ensures.whole) (three.told t3) in
    appended_part c.from_residual-in_err-sync-2.result c.from_residual-in_err-sync-2.ensures.0
    (gate_synced _ (g.W.Outside.view c.write_at.new.self) c.args.file c.args.at text shut current (g.W.Outside.view c.sync.new.self)
    (g.W.Outside.view c.write_at-2.new.self) c.in_ok-write_at.field-0 c.in_ok-sync.field-0 first (two.told t2) _ _ _ third (four.told t))

-- all is done: the gate is open in every outcome, and the text whole behind it
pub returns-clause-told : goal.returns-clause-told
returns-clause-told g c = λ t.
    let one = c.in_ok-write_at.ensures in
    let two = c.in_ok-sync.ensures in
    let three = c.in_ok-write_at-2.ensures in
    let four = c.in_ok-sync-2.ensures in
    let t3 = four.still t in
    let t2 = three.still t3 in
    let t0 = one.still (two.still t2) in
    let shut = c.requires.gate t0 in
    let current = g.met.W.Outside.reads_an_image c.args.world.now c.args.file t0 in
    let text = c.args.block.now in
    let first = wrote_as (block_of text) (block_behind _ text c.whole-whole.ensures.whole) (one.told (two.still t2)) in
    let third = wrote_as (open_gate ∷ []) (block_front _ text c.whole-whole.ensures.whole) (three.told t3) in
    appended_whole _
    (gate_synced _ (g.W.Outside.view c.write_at.new.self) c.args.file c.args.at text shut current (g.W.Outside.view c.sync.new.self)
    (g.W.Outside.view c.write_at-2.new.self) c.in_ok-write_at.field-0 c.in_ok-sync.field-0 first (two.told t2) _ _ _ third (four.told t))
    (gate_whole _ (g.W.Outside.view c.write_at.new.self) c.args.file c.args.at text shut current (g.W.Outside.view c.sync.new.self)
    (g.W.Outside.view c.write_at-2.new.self) c.in_ok-write_at.field-0 c.in_ok-sync.field-0 first (two.told t2) _ c.in_ok-write_at-2.field-0
    c.in_ok-sync-2.field-0 third (four.told t))
    (synced_stable (four.told t))
