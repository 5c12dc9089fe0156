-- This file shows that what is told of the faces of a value answers the query.
use Rattle.std.proofs.Common.{◌≢◌, refl, sym, subst, ℕ, List, Option, Some, IsSome, inl, inr}
use Rattle.grid_base.specs.declared.kinds.Kind.TheVariants.{Points, Lines, Regions}
use Rattle.rose_values.specs.declared.geometry.Geometry.{Geometry}
use Rattle.rose_values.specs.declared.geometry.Geometry.TheVariants.{P, L, R}
use Rattle.value_table.specs.Table.{IsNamed}
use Rattle.value_table.specs.declared.value.Value.{Value}
use Rattle.realm_insert.specs.State.{State}
use Rattle.realm_insert.specs.Values.{IsGeometryNamed}
use Rattle.rose_query.specs.Outlines.{AnswersFaces}
use Rattle.rose_query.specs.Told.{TellsFaces}
use Rattle.rose_query.proofs.NamedKinds.{kind_of_one}

-- some value has the name
pub is_named : (s : State) (name : List ℕ) (g : Geometry) → IsGeometryNamed s name (Some g) → IsNamed name s.values
is_named s name g is = subst (λ (found : Option Value). IsSome found) (sym is.1) refl

points_differ : Points ≢ Regions
points_differ e = let same = e in cc

lines_differ : Lines ≢ Regions
lines_differ e = let same = e in cc

pub faces_shown : (s : State) (name : List ℕ) (g : Geometry) (reply : List ℕ) → IsGeometryNamed s name (Some g)
    → TellsFaces g reply → AnswersFaces name s reply
faces_shown s name (P points) reply is told = inr (
  (λ none. none (is_named s name (P points) is)),
  inl ((kind_of_one s name (P points) (λ k. k ≢ Regions) is).1 points_differ, told),
)
faces_shown s name (L lines) reply is told = inr (
  (λ none. none (is_named s name (L lines) is)),
  inl ((kind_of_one s name (L lines) (λ k. k ≢ Regions) is).1 lines_differ, told),
)
faces_shown s name (R border) reply is told = inr (
  (λ none. none (is_named s name (R border) is)),
  inr (
    (λ other. (kind_of_one s name (R border) (λ k. k ≢ Regions) is).0 other refl),
    record {
      border = border;
      is_region = is;
      ascending = told.ascending;
      faces = told.faces;
      are_faces = told.are_faces;
      reply_is = told.reply_is;
    },
  ),
)
