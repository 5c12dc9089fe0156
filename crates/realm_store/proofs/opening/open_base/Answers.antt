use Rattle.realm_store.proofs.Starts.{base_behind}
use Rattle.realm_store.proofs.opening.open_base.Goals as goal

-- both files were synced, and then read
pub returns-clause-told : goal.returns-clause-told
returns-clause-told g c = λ t.
    let two = c.find_base.ensures in
    base_behind (c.in_ok-sync_both.ensures.told (two.goes_on.tells t)) (two.told t)
