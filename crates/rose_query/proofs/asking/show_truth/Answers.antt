use Rattle.std.proofs.lemmas.Result.{IfOk-weaker}
use Rattle.rose_query.proofs.DrawnOperands.{operands_are_outside}
use Rattle.rose_query.proofs.Told.{asked_answers}
use Rattle.rose_query.proofs.asking.show_truth.Goals as goal

-- both values are drawn
pub holds-requires-clause-outside : goal.holds-requires-clause-outside
holds-requires-clause-outside c =
    let are = rw c.in-Some-second.is at (rw c.in-Some.is at c.in_ok-of.ensures) in
    operands_are_outside c.args.state.now.state c.drawing.ensures.realm c.table.ensures.values_fit c.in-Some.of.first
    c.in-Some-second.other are

-- what is told of the answer answers the query
pub returns-in-Some-second : goal.returns-in-Some-second
returns-in-Some-second c =
    let are = rw c.in-Some-second.is at (rw c.in-Some.is at c.in_ok-of.ensures) in
    IfOk-weaker c.list_answer.result _ _
    (λ reply told. asked_answers c.args.state.now.state c.args.first.now c.args.second.now c.in-Some.of.first
    c.in-Some-second.other are c.args.pred c.holds.result c.holds.ensures.holds c.holds.ensures.wrong_types reply told)
    c.list_answer.ensures
