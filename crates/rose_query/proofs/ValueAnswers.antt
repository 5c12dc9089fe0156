-- This file shows that a value that has a geometry is shown by it.
use Rattle.std.proofs.Common.{◌≡◌, refl, sym, subst, ℕ, List, Option, Some, IsSome, inr}
use Rattle.rose_values.specs.declared.geometry.Geometry.{Geometry}
use Rattle.value_table.specs.declared.value.Value.{Value}
use Rattle.realm_insert.specs.State.{State}
use Rattle.rose_operators.specs.Results.{IsAscending}
use Rattle.realm_insert.specs.Values.{IsGeometryNamed}
use Rattle.line_grammar.specs.declared.command.Query.TheVariants.{Show}
use Rattle.rose_query.specs.Replies.{value_reply}
use Rattle.rose_query.specs.Answers.{AnswersQuery}

-- the name is a value's, and its geometry is listed
pub value_shown : {name : List ℕ} {state : State} {reply : List ℕ} (geometry : Geometry)
    → IsGeometryNamed state name (Some geometry) → IsAscending geometry → reply ≡ value_reply geometry
    → AnswersQuery (Show name) state reply
value_shown {name} {state} geometry is_geometry ascending is =
    let named = subst (λ (found : Option Value). IsSome found) (sym is_geometry.1) refl in
    inr ((λ none. none named), record { geometry = geometry; is_geometry = is_geometry; ascending = ascending; reply_is = is })
