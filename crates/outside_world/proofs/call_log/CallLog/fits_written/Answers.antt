use Rattle.std.proofs.Common.{◌≡◌, ◌+◌, ◌≤◌, subst, arith}
use Rattle.std.specs.Prelude.{◌↔◌, IsTrue, nat_le}
use Rattle.outside_world.specs.Events.{size_written_by}
use Rattle.outside_world.specs.Log.{Log}
use Rattle.outside_world.specs.LogFields.{log_of}
use Rattle.outside_world.proofs.Rooms.{written_is, upto_decides}
use Rattle.outside_world.proofs.call_log.CallLog.fits_written.Goals as goal

-- there are as many bytes as were noted
pub returns : goal.returns
returns c =
    let w = c.self.inside in
    let n = c.len.result + c.args.size in
    let test = nat_le n w.room.written in
    let log = log_of w in
    let count : size_written_by log.calls + c.args.size ≡ n = omega (arith, written_is w c.self.invariant, c.len.ensures) in
    subst (λ (log : Log). IsTrue test ↔ (size_written_by log.calls + c.args.size ≤ log.room.written)) c.self.view_is
    (upto_decides n (size_written_by log.calls + c.args.size) w.room.written count)
