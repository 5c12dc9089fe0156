use Rattle.std.proofs.Common.{◌≡◌, take}
use Rattle.std.specs.List.{concat}
use Rattle.query_batch.proofs.joining.joined.Given as goal

-- the replies so far are put together
abbrev pub invariant-loop-reply : goal.invariant-loop-reply
invariant-loop-reply l = l.bytes.items ≡ concat (take l.reply-index l.replies)
