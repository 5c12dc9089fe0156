use Rattle.realm_store.proofs.EmptyFiles.{stands_empty, rests_empty}
use Rattle.realm_store.proofs.laws.empty_files_stand.Goals as goal

-- neither file counts
pub returns-clause-stands : goal.returns-clause-stands
returns-clause-stands c = stands_empty

pub returns-clause-rests : goal.returns-clause-rests
returns-clause-rests c = rests_empty
