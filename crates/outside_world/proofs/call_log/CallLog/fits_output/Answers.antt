use Rattle.std.proofs.Common.{◌≡◌, ◌+◌, ◌≤◌, length, subst, arith}
use Rattle.std.specs.Prelude.{◌↔◌, IsTrue, nat_le}
use Rattle.outside_world.specs.Events.{given_by}
use Rattle.outside_world.specs.Log.{Log}
use Rattle.outside_world.specs.LogFields.{log_of}
use Rattle.outside_world.proofs.Rooms.{given_is, upto_decides}
use Rattle.outside_world.proofs.call_log.CallLog.fits_output.Goals as goal

-- there are as many bytes as were noted
pub returns : goal.returns
returns c =
    let w = c.self.inside in
    let n = c.len.result + c.args.size in
    let test = nat_le n w.room.output in
    let log = log_of w in
    let count : length (given_by log.calls) + c.args.size ≡ n = omega (arith, given_is w c.self.invariant, c.len.ensures) in
    subst (λ (log : Log). IsTrue test ↔ (length (given_by log.calls) + c.args.size ≤ log.room.output)) c.self.view_is
    (upto_decides n (length (given_by log.calls) + c.args.size) w.room.output count)
