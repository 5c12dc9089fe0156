use Rattle.std.proofs.Common.{subst, ℕ, List, Some}
use Rattle.std.proofs.lemmas.Result.{IfOk-weaker}
use Rattle.realm_insert.specs.Values.{IsGeometryNamed}
use Rattle.rose_query.proofs.FaceAnswers.{faces_shown}
use Rattle.rose_query.proofs.outlining.show_faces.Goals as goal

-- the faces of the value with this name are told
pub returns-in-Ok-Some : goal.returns-in-Ok-Some
returns-in-Ok-Some c =
    let s = c.args.state.now.state in
    let named = subst (λ (name : List ℕ). IsGeometryNamed s name (Some c.in-Ok-Some.geometry)) c.text.ensures
    (subst (λ found. IsGeometryNamed s c.text.result.now found) c.in-Ok-Some.field-0-is
    c.in-Ok-Some.ensures.geometry) in
    IfOk-weaker c.tell_faces.result _ _
    (λ reply told. faces_shown s c.args.name.now c.in-Ok-Some.geometry reply named told)
    c.tell_faces.ensures
