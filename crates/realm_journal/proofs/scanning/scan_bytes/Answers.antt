use Rattle.std.proofs.Common.{sym, subst, arith}
use Rattle.realm_journal.specs.Scanning.{IsScan, IsNextAt}
use Rattle.realm_journal.proofs.Scans.{scan_next, scans_closed, scans_bad, scans_as, place_told}
use Rattle.realm_journal.proofs.scanning.scan_bytes.Goals as goal

-- one record more
pub loop-list-preserved : goal.loop-list-preserved
loop-list-preserved c =
    let bytes = c.args.bytes.now in
    let r = c.in-Record.record in
    let end = c.in-Record.end in
    let stands = subst (λ n. IsNextAt bytes c.loop-list.place n) c.in-Record.is c.in_ok-record.ensures.next in
    record {
      within = stands.within;
      scan = subst (λ l. IsScan bytes 0 l end) (sym c.in_ok-push-in-Record.ensures.items)
          (scan_next bytes c.loop-list.list.items c.loop-list.place r end c.loop-list.invariant.scan stands);
    }

-- a closed gate
pub returns-in-Closed : goal.returns-in-Closed
returns-in-Closed c = record {
  scan = λ file short is.
      let bytes = c.args.bytes.now in
      let place = c.loop-list.place in
      let closed = subst (λ n. IsNextAt bytes place n) c.in-Closed.is c.in_ok-record.ensures.next in
      scans_as c.new.ensures
      (place_told file bytes c.args.at place _ (omega arith) short is c.loop-list.invariant.within c.saturating_add.ensures)
      (scans_closed file bytes c.args.at c.loop-list.list.items place is c.loop-list.invariant.scan closed);
}

-- an open gate with no record behind it
pub returns-in-Bad : goal.returns-in-Bad
returns-in-Bad c = record {
  scan = λ file short is.
      let bytes = c.args.bytes.now in
      let place = c.loop-list.place in
      let (opened, none) = subst (λ n. IsNextAt bytes place n) c.in-Bad.is c.in_ok-record.ensures.next in
      scans_as c.new-in-Bad.ensures
      (place_told file bytes c.args.at place _ (omega arith) short is c.loop-list.invariant.within c.saturating_add-in-Bad.ensures)
      (scans_bad file bytes c.args.at c.loop-list.list.items place is c.loop-list.invariant.scan opened none);
}
