use Rattle.std.proofs.Common.{[], ◌++◌, ap}
use Rattle.certificate_law.specs.Certificates.{entries_of}
use Rattle.rose_shell.proofs.GivenChanges.{underway_none, underway_at, underway_then, underway_cut, underway_short, underway_over}
use Rattle.rose_shell.proofs.GivenChanges.{leads_these, changes_err, next_entries}
use Rattle.rose_shell.proofs.certifying.give_changes.Goals as goal

pub loop-record-init : goal.loop-record-init
loop-record-init g c = record {
  so_far = ([], underway_none c.args.engine.now (entries_of c.args.records.now) c.requires.ready c.requires.intact);
}

-- the entries of the next record lead on
pub give_entries-requires-clause-leads : goal.give_entries-requires-clause-leads
give_entries-requires-clause-leads g c κs within =
    let these = c.entries.result.now in
    let rest = entries_of c.next_record.new.self in
    let handed = rw c.in-Some.is at c.in_ok-record.ensures.handed in
    leads_these these rest (underway_at these rest (next_entries these handed c.entries.ensures.entries) c.loop-record.invariant.so_far.1) c.requires.leads

-- their changes are made again, and their items given
pub loop-record-preserved : goal.loop-record-preserved
loop-record-preserved g c =
    let these = c.entries.result.now in
    let rest = entries_of c.next_record.new.self in
    let handed = rw c.in-Some.is at c.in_ok-record.ensures.handed in
    let made = c.in_ok-give_entries.ensures in
    let (before, so_far) = c.loop-record.invariant.so_far in
    record {
      so_far = (
        before ++ these,
        underway_then these rest (underway_at these rest (next_entries these handed c.entries.ensures.entries) so_far) c.requires.leads
            made.ready made.led made.gave,
      );
    }

-- or a fault comes within them
pub returns-in_err-give_entries : goal.returns-in_err-give_entries
returns-in_err-give_entries g c = λ end lead.
    let these = c.entries.result.now in
    let rest = entries_of c.next_record.new.self in
    let handed = rw c.in-Some.is at c.in_ok-record.ensures.handed in
    changes_err c.from_residual-in_err-give_entries.result c.from_residual-in_err-give_entries.ensures.1
    (underway_cut these rest (underway_at these rest (next_entries these handed c.entries.ensures.entries) c.loop-record.invariant.so_far.1) end lead
    c.in_err-give_entries.ensures.gave)

-- memory runs out before the next is read
pub returns-in_err-record : goal.returns-in_err-record
returns-in_err-record g c = λ end lead.
    let so_far = c.loop-record.invariant.so_far.1 in
    changes_err c.from_residual.result c.from_residual.ensures.1 (underway_short so_far so_far.gave.intact end lead)

-- none is left
pub returns : goal.returns
returns g c = λ end lead.
    let none = rw c.in_default.is at c.in_ok-record.ensures.handed in
    underway_over c.loop-record.invariant.so_far.1 (ap entries_of none.0) end lead
