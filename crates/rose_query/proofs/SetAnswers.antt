-- This file shows that what is told of sums, parts, overlays and fusions answers the query.
use Rattle.std.proofs.Common.{◌≡◌, ◌↔◌, ℕ, List, Result, Ok, Err, IfOk, refl, inl, inr}
use Rattle.rose_values.specs.declared.geometry.Geometry.{Geometry}
use Rattle.rose_sets.specs.declared.error.SetError.{SetError}
use Rattle.rose_sets.specs.declared.error.SetError.TheVariants.{WrongTypes, NoMemory}
use Rattle.realm_insert.specs.State.{State}
use Rattle.realm_insert.specs.declared.refusal.Refusal.TheVariants.{NoName, Types}
use Rattle.rose_query.specs.Causes.{Answer, Unless}
use Rattle.rose_query.specs.Sets.{IsPresentValue, AnswersDecompose}
use Rattle.rose_query.specs.ToldSets.{TellsSet, ListsParts}
use Rattle.rose_query.proofs.FaceAnswers.{is_named}

-- no name is lacking, and what is told says whether the kinds are those that the operator takes
pub set_told : {X : Type 0} (Shows : X → List ℕ → Type 0) (made : Result X SetError) (Wrong : Type 0) (s : State)
    (lacks kinds : State → Type 0) (answer : Answer) → (lacks s → ⊥) → kinds s ↔ Wrong → (made ≡ Err WrongTypes) ↔ Wrong
    → (reply : List ℕ) → IfOk made (λ x. Shows x reply → answer s reply) → TellsSet Shows made reply
    → Unless lacks NoName (Unless kinds Types answer) s reply
set_told Shows (Ok x) Wrong s lacks kinds answer none same wrong reply shown told =
    inr (none, inr ((λ cause. let never = wrong.1 (same.0 cause) in cc), shown told))
set_told Shows (Err WrongTypes) Wrong s lacks kinds answer none same wrong reply shown told =
    inr (none, inl (same.1 (wrong.0 refl), told))
set_told Shows (Err NoMemory) Wrong s lacks kinds answer none same wrong reply shown told = absurd told

-- values of every kind have parts
pub parts_shown : (s : State) (name : List ℕ) (g : Geometry) (reply : List ℕ) → IsPresentValue s name g → ListsParts g reply
    → AnswersDecompose name s reply
parts_shown s name g reply is told = inr (
  (λ none. none (is_named s name g is.0)),
  record {
    value = g;
    is_present = is;
    parts = told.parts;
    are_parts = told.are_parts;
    ascending = told.ascending;
    reply_is = told.reply_is;
  },
)
