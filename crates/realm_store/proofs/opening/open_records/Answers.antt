use Rattle.realm_store.proofs.Openings.{reaches, row_opened}
use Rattle.realm_store.proofs.opening.open_records.Goals as goal

-- the records behind the payload lead on, or one of them is bad
pub returns-in-Ok-clause-told : goal.returns-in-Ok-clause-told
returns-in-Ok-clause-told g c = λ t base.
    let read = c.in-Ok.ensures.told t in
    row_opened read.asks base c.open_bytes.result
    (c.open_bytes.ensures.row _ read.size read.bytes (reaches read.asks base))
