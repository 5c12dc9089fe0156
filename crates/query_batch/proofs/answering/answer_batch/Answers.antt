use Rattle.std.proofs.Common.{None, subst, sym, ap, ◌∙◌}
use Rattle.std.specs.List.{concat}
use Rattle.std.proofs.lemmas.Result.{IfOk-weaker}
use Rattle.query_batch.specs.Answers.{TellsLine}
use Rattle.query_batch.specs.Joined.{AreJoined}
use Rattle.query_batch.proofs.Joinings.{joined_by}
use Rattle.query_batch.proofs.answering.answer_batch.Goals as goal

-- each job has answered the line of its number
pub returns : goal.returns
returns g c =
    let state = c.args.state.now.state in
    let lines = c.args.lines.now in
    let texts = c.in_ok-replies.ensures in
    let all = joined_by (TellsLine state) None lines c.in_ok-replies.replies.items texts.number texts.each in
    record {
      answer = IfOk-weaker c.joined.result _ _
          (λ reply is. subst (AreJoined (TellsLine state) lines) (sym (is ∙ ap concat c.deref.ensures.value)) all) c.joined.ensures;
    }
