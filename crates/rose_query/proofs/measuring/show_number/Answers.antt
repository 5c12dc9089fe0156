use Rattle.std.proofs.lemmas.Result.{IfOk-weaker}
use Rattle.std.specs.Option.{option_copied}
use Rattle.rose_query.proofs.Told.{measured_answers}
use Rattle.rose_query.proofs.measuring.show_number.Goals as goal

-- what is told of the number answers the query
pub returns-in-Some : goal.returns-in-Some
returns-in-Some c =
    let are = rw c.in-Some.is at c.in_ok-of.ensures in
    let told = rw c.as_ref.ensures.value at c.list_measure.ensures in
    IfOk-weaker c.list_measure.result _ _
    (λ reply tells. measured_answers c.args.num c.args.state.now.state c.args.first.now (option_copied c.args.second)
    c.in-Some.of.first c.in-Some.of.second are reply tells)
    told
