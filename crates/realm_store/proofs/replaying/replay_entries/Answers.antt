use Rattle.std.proofs.Common.{◌+◌, ap}
use Rattle.realm_store.proofs.Replays.{lead_by_more, fails_here}
use Rattle.realm_store.proofs.replaying.replay_entries.Goals as goal

-- this entry leads nowhere
pub returns-then-not-branch : goal.returns-then-not-branch
returns-then-not-branch g c =
    let entry = c.entry-item.result in
    fails_here c.args.engine.now.state c.args.entries.now c.loop-entry.entry-index c.loop-entry.engine.state entry entry
    c.replay_entry.new.engine (c.changes-number.result + 1) c.loop-entry-test.true c.entry-item.is c.loop-entry.invariant.lead
    (c.in_ok-replay_entry.ensures.nowhere c.if-not-branch.true) (ap (λ n. n + 1) c.changes-number.ensures.changes)

-- it leads on
pub loop-entry-preserved : goal.loop-entry-preserved
loop-entry-preserved g c =
    let entry = c.entry-item.result in
    record {
      ready = c.in_ok-replay_entry.ensures.ready c.if-not-branch.false;
      lead = lead_by_more c.args.engine.now.state c.args.entries.now c.loop-entry.entry-index c.loop-entry.engine.state
          c.replay_entry.new.engine.state entry entry c.loop-entry-test.true c.entry-item.is c.loop-entry.invariant.lead
          (c.in_ok-replay_entry.ensures.led c.if-not-branch.false);
    }
