use Rattle.realm_files.proofs.Alones.{stands_alone}
use Rattle.realm_store.specs.Stands.{meaning}
use Rattle.realm_store.proofs.EmptyStates.{opens_empty}
use Rattle.realm_store.proofs.laws.stands_alone.Goals as goal

-- the payload of a first generation has no byte, and opens the empty state
pub returns : goal.returns
returns c = stands_alone meaning opens_empty
