use Rattle.realm_journal.proofs.HandingLemmas.{closed_handed, bad_handed, record_handed}
use Rattle.realm_journal.proofs.handing.Records.next_record.Goals as goal

-- the first is handed out,
pub returns-in-Record-clause-handed : goal.returns-in-Record-clause-handed
returns-in-Record-clause-handed c =
    record_handed c.self.inside.bytes.items c.as_slice-bytes.result.now c.args.self.now c.self.inside.end c.in_ok-record.field-0
    c.in_ok-record.ensures.next c.as_slice-bytes.ensures.value c.self.view_is c.in-Record.record c.in-Record.end c.bytes_fit.ensures
    c.in-Record.is

-- or none is left, where the gate is closed
pub returns-in-Closed : goal.returns-in-Closed
returns-in-Closed c =
    let none = closed_handed c.self.inside.bytes.items c.as_slice-bytes.result.now c.args.self.now c.self.inside.end
    c.in_ok-record.field-0 c.in_ok-record.ensures.next c.as_slice-bytes.ensures.value c.self.view_is c.in-Closed.is in
    record { handed = (none, none); is_record = tt; same = tt }

-- or no record stands behind it
pub returns-in-Bad : goal.returns-in-Bad
returns-in-Bad c =
    let none = bad_handed c.self.inside.bytes.items c.as_slice-bytes.result.now c.args.self.now c.self.inside.end
    c.in_ok-record.field-0 c.in_ok-record.ensures.next c.as_slice-bytes.ensures.value c.self.view_is c.bytes_fit.ensures c.in-Bad.is in
    record { handed = (none, none); is_record = tt; same = tt }
