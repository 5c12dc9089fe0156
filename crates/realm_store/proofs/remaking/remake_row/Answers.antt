use Rattle.std.proofs.Common.{subst}
use Rattle.realm_journal.specs.Scanning.{IsNextAt}
use Rattle.realm_store.proofs.Remakings.{led_none, row_closed, row_cut, row_stops, led_next}
use Rattle.realm_store.proofs.remaking.remake_row.Goals as goal

-- none was made again yet
pub loop-record-init : goal.loop-record-init
loop-record-init g c = record { led = led_none c.args.bytes.now c.args.engine.now c.requires.ready }

-- the gate is closed,
pub returns-in-Closed : goal.returns-in-Closed
returns-in-Closed g c =
    let stands = subst (λ n. IsNextAt c.args.bytes.now c.loop-record.place n) c.in-Closed.is c.in_ok-next_record.ensures.next in
    row_closed c.loop-record.invariant.led stands

-- or open without a record behind it,
pub returns-in-Bad : goal.returns-in-Bad
returns-in-Bad g c =
    let stands = subst (λ n. IsNextAt c.args.bytes.now c.loop-record.place n) c.in-Bad.is c.in_ok-next_record.ensures.next in
    row_cut c.loop-record.invariant.led stands

-- or this record leads nowhere,
pub returns-then-not-branch : goal.returns-then-not-branch
returns-then-not-branch g c =
    let stands = subst (λ n. IsNextAt c.args.bytes.now c.loop-record.place n) c.in-Record.is c.in_ok-next_record.ensures.next in
    row_stops c.loop-record.invariant.led stands (c.in_ok-replay_one-in-Record.ensures.nowhere c.if-not-branch.true)

-- or it leads on
pub loop-record-preserved : goal.loop-record-preserved
loop-record-preserved g c =
    let stands = subst (λ n. IsNextAt c.args.bytes.now c.loop-record.place n) c.in-Record.is c.in_ok-next_record.ensures.next in
    let made = c.in_ok-replay_one-in-Record.ensures in
    record {
      led = led_next c.loop-record.invariant.led stands (made.led c.if-not-branch.false) (made.ready c.if-not-branch.false);
    }
