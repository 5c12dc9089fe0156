use Rattle.std.proofs.Common.{◌-◌, ◌≤◌, length}
use Rattle.realm_journal.specs.Scanning.{IsScan}
use Rattle.realm_journal.proofs.scanning.scan_bytes.Given as goal

abbrev pub invariant-loop-list : goal.invariant-loop-list
invariant-loop-list l = record {
  within : l.place ≤ length l.bytes;
  scan : IsScan l.bytes 0 l.list.items l.place;
}

abbrev pub decreases-loop-list : goal.decreases-loop-list
decreases-loop-list l = length l.bytes - l.place
