use Rattle.realm_insert.specs.Snapshots.{state_of}
use Rattle.realm_store.proofs.Journals.{stands_by_journal}
use Rattle.realm_store.proofs.laws.journal_stands.Goals as goal

-- the state of the base is one that the payload opens
pub returns : goal.returns
returns c = λ files kept base records. stands_by_journal files kept.state kept.place (state_of base) records
