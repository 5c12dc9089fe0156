use Rattle.realm_files.proofs.Syncs.{cut, both}
use Rattle.realm_files.proofs.syncing.sync_both.Goals as goal

-- file A isn't synced,
pub returns-in_err-sync-clause-told : goal.returns-in_err-sync-clause-told
returns-in_err-sync-clause-told g c = λ t.
    cut c.from_residual.result c.from_residual.ensures.0 (c.in_err-sync.ensures.told t)

-- or it is, and then file B
pub returns-clause-told : goal.returns-clause-told
returns-clause-told g c = λ t.
    let two = c.sync-2.ensures in
    both c.sync-2.result (c.in_ok-sync.ensures.told (two.still t)) (two.told t)
