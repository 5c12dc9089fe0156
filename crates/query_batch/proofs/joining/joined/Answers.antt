use Rattle.std.proofs.Common.{◌++◌, sym, ◌∙◌}
use Rattle.query_batch.proofs.Joinings.{joined_more}
use Rattle.query_batch.proofs.joining.joined.Goals as goal

-- one reply more
pub loop-reply-preserved : goal.loop-reply-preserved
loop-reply-preserved c =
    c.in_ok-extend_from_slice.ensures.items ∙ (λ j. c.loop-reply.invariant j ++ c.bytes.ensures j)
    ∙ sym (joined_more c.args.replies.now c.loop-reply.reply-index c.reply-item.result c.loop-reply-test.true c.reply-item.is)
