use Rattle.std.proofs.Common.{refl, ap, Err}
use Rattle.rose_shell.proofs.Results.{err_is}
use Rattle.rose_shell.proofs.AtFollower.{wanting_at_follower, started_again, not_started_again}
use Rattle.rose_shell.proofs.follower.start_again.Goals as goal

-- there is no memory for the reply
pub returns-in_err-reply-clause-at_follower : goal.returns-in_err-reply-clause-at_follower
returns-in_err-reply-clause-at_follower g c = λ before line r left is taken nowhere.
    wanting_at_follower g.W.Outside left refl (err_is c.from_residual.result c.from_residual.ensures.1)

-- the store is started on the same files
pub returns-in-Ok-clause-at_follower : goal.returns-in-Ok-clause-at_follower
returns-in-Ok-clause-at_follower g c = λ before line r left is taken nowhere.
    let start = c.in-Ok.ensures in
    started_again g.W.Outside left r is taken nowhere start.ready start.no_group c.state-state.ensures.kept_sound
    (start.intact (λ same. cc)) start.goes_on.tells start.told start.rest c.in_ok-reply.ensures

-- or it isn't
pub returns-in-Err-clause-at_follower : goal.returns-in-Err-clause-at_follower
returns-in-Err-clause-at_follower g c = λ before line r left is taken nowhere.
    let start = c.in-Err.ensures in
    not_started_again g.W.Outside left r is taken nowhere c.in-Err.error (ap Err c.from.ensures) start.goes_on.tells start.told
    (λ other. start.intact (λ same. other (let one = same in cc))) (λ same. start.disk_fault (ap Err same))
