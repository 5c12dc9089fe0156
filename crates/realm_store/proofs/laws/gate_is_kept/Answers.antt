use Rattle.realm_store.proofs.OneReading.{gate_is_kept}
use Rattle.realm_store.proofs.laws.gate_is_kept.Goals as goal

-- the files have one reading, and reach to their gate
pub returns : goal.returns
returns c = gate_is_kept
