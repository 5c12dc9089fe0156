use Rattle.std.proofs.lemmas.Result.{IfOk-weaker}
use Rattle.rose_query.proofs.Results.{told_answers}
use Rattle.rose_query.proofs.answering.answer_alone.Goals as goal

-- what is told of the operator's result answers the query
pub returns-in-Some : goal.returns-in-Some
returns-in-Some c =
    let are = rw (c.as_ref.ensures.value, c.in-Some.is) at c.in_ok-of-in-Eval.ensures in
    let made = rw c.as_ref-in-Some.ensures.value at c.operate_alone.ensures.made in
    let wrong = rw c.as_ref-in-Some.ensures.value at c.operate_alone.ensures.wrong_types in
    record {
      answer = rw c.in-Eval.is
          (IfOk-weaker c.list_made.result _ _
          (λ reply told. told_answers c.args.state.now.state c.in-Eval.first c.in-Eval.second c.in-Some.of.first c.in-Some.of.second are
          c.in-Eval.op c.operate_alone.result made wrong reply told)
          c.list_made.ensures);
    }

-- what an overlay is answered is told as it is
pub returns-in-Overlay : goal.returns-in-Overlay
returns-in-Overlay c = record { answer = rw c.in-Overlay.is c.show_overlay.ensures }
