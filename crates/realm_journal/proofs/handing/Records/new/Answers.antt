use Rattle.std.proofs.Common.{subst}
use Rattle.record_codec.proofs.Bytes.{IsBytes}
use Rattle.realm_journal.proofs.HandingLemmas.{held_scan}
use Rattle.realm_journal.proofs.handing.Records.new.Goals as goal

-- those that a scan from the front on finds
pub returns : goal.returns
returns c = λ list end bad scans.
    let are : IsBytes c.args.bytes.items = subst IsBytes c.as_slice.ensures.value c.bytes_fit.ensures in
    held_scan c.args.bytes.items 0 list end bad are scans.records scans.ends
