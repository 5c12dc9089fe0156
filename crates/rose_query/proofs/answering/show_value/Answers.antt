use Rattle.std.proofs.Common.{subst, ℕ, List, Some}
use Rattle.std.proofs.lemmas.Result.{IfOk-weaker}
use Rattle.realm_insert.specs.Values.{IsGeometryNamed}
use Rattle.rose_query.proofs.ValueAnswers.{value_shown}
use Rattle.rose_query.proofs.answering.show_value.Goals as goal

-- the geometry of the value with this name is listed
pub returns-in-Ok-Some : goal.returns-in-Ok-Some
returns-in-Ok-Some c =
    let named = subst (λ (name : List ℕ). IsGeometryNamed c.args.state.now.state name (Some c.in-Ok-Some.geometry)) c.text.ensures
    (subst (λ found. IsGeometryNamed c.args.state.now.state c.text.result.now found) c.in-Ok-Some.field-0-is
    c.in-Ok-Some.ensures.geometry) in
    IfOk-weaker c.list_value.result _ _
    (λ reply is. value_shown c.in-Ok-Some.geometry named c.list_value.ensures.ascending is)
    c.list_value.ensures.reply
