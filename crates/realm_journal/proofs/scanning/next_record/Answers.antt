use Rattle.std.proofs.Common.{◌+◌}
use Rattle.realm_journal.proofs.Scans.{next_stands, closed_unless, rest_of, none_begins, found_begins}
use Rattle.realm_journal.proofs.scanning.next_record.Goals as goal

-- the gate is closed,
pub returns-then-not-is_open : goal.returns-then-not-is_open
returns-then-not-is_open c =
    record { next = closed_unless c.args.bytes.now c.args.at c.is_open.result c.is_open.ensures.1 c.if-not-is_open.true }

-- or open with no record behind it,
pub returns-in-None : goal.returns-in-None
returns-in-None c =
    let bytes = c.args.bytes.now in
    let opened = c.is_open.ensures.0 c.if-not-is_open.false in
    let decoded = c.in_ok-decode.ensures in
    record {
      next = (opened.1, none_begins _ _ (rest_of bytes (c.args.at + 1)) c.in_ok-decode.field-0 c.in-None.is decoded.only);
    }

-- or there is one
pub returns-in-Some : goal.returns-in-Some
returns-in-Some c =
    let bytes = c.args.bytes.now in
    let at = c.args.at in
    let opened = c.is_open.ensures.0 c.if-not-is_open.false in
    let (is_record, size, begins) =
    found_begins _ _ (rest_of bytes (at + 1)) c.in_ok-decode.field-0 c.in-Some.record c.in-Some.size c.in-Some.is
    c.in_ok-decode.ensures.found in
    record { next = next_stands bytes at c.in-Some.record c.in-Some.size opened.0 opened.1 is_record size begins }
