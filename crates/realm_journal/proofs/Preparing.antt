-- This file shows which record a block is the text of.
use Rattle.std.proofs.Common.{◌≡◌, ◌∙◌, List, ℕ, [], ◌∷◌, ◌++◌, drop, ap, sym, subst}
use Rattle.std.proofs.lemmas.List.{append-nil}
use Rattle.record_codec.specs.declared.record.Record.{Record}
use Rattle.record_codec.specs.Fitting.{IsRecord}
use Rattle.record_codec.specs.Spelling.{record_text}
use Rattle.record_codec.specs.Reading.{record_at}
use Rattle.record_codec.proofs.RecordLemmas.{read_again}
use Rattle.realm_journal.specs.Gates.{open_gate}
use Rattle.realm_journal.specs.declared.prepared.Prepared.TheInside.{Inside}
use Rattle.realm_journal.specs.PreparedFields.{record_or_none, IsOfRecord}

-- the text of a record is read as this record
pub read_back : (text : List ℕ) (r : Record) → IsRecord r → text ≡ record_text r → record_or_none (record_at text) ≡ r
read_back text r is says = ap record_or_none (read_again text r is ([], says ∙ sym (append-nil (record_text r))))

-- a text that was written behind an open gate
pub behind_gate : (begun whole text block : List ℕ) → begun ≡ open_gate ∷ [] → whole ≡ begun ++ text → block ≡ drop 1 whole
    → block ≡ text
behind_gate begun whole text block gate written rest =
    rest ∙ ap (λ l. drop 1 l) (written ∙ ap (λ l. l ++ text) gate)

pub of_record : (p : Inside) (r : Record) → IsRecord r → p.block ≡ record_text r → IsOfRecord p
of_record p r is says =
    let same = sym (read_back p.block r is says) in
    record { is_record = subst IsRecord same is; is_text = says ∙ ap record_text same }
