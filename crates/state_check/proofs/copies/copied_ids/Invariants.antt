use Rattle.std.proofs.Common.{◌<◌, ◌^◌}
use Rattle.state_check.proofs.Copying.{IsFront}
use Rattle.state_check.proofs.copies.copied_ids.Given as goal

-- the ids so far are listed
abbrev pub invariant-loop-id : goal.invariant-loop-id
invariant-loop-id l = IsFront (λ id. id < 2 ^ 32) l.ids l.id-index l.list.items
