use Rattle.std.proofs.lemmas.Result.{IfOk-weaker}
use Rattle.rose_query.proofs.SetAnswers.{parts_shown}
use Rattle.rose_query.proofs.gathering.show_parts.Goals as goal

-- what is told of the parts of the value answers the query
pub returns-in-Some : goal.returns-in-Some
returns-in-Some c =
    let is = rw c.in-Some.is at c.in_ok-value.ensures in
    IfOk-weaker c.tell_parts.result _ _
    (λ reply told. parts_shown c.args.state.now.state c.args.name.now c.in-Some.value reply is told)
    c.tell_parts.ensures
