-- This file shows that what is told of a predicate or a number answers the query.
use Rattle.std.proofs.Common.{◌≡◌, ◌↔◌, ℕ, List, Option, Some, Bool, false, Result, Ok, Err, IfOk, IsTrue, None, refl, inl, inr}
use Rattle.rose_values.specs.declared.geometry.Geometry.{Geometry}
use Rattle.rose_values.specs.declared.geometry.Geometry.TheVariants.{P, L, R}
use Rattle.rose_values.specs.declared.operators.Pred.{Pred}
use Rattle.rose_values.specs.declared.operators.Num.{Num}
use Rattle.rose_values.specs.declared.operators.Num.TheVariants.{NoOfComponents}
use Rattle.rose_values.specs.Geometry.{kind_of}
use Rattle.rose_values.specs.Kinds.{takes_kinds}
use Rattle.rose_predicates.specs.Predicates.{IsTrueOf}
use Rattle.rose_predicates.specs.declared.answering.HoldsError.{HoldsError}
use Rattle.rose_predicates.specs.declared.answering.HoldsError.TheVariants.{WrongTypes, NoMemory}
use Rattle.rose_measure.specs.Components.{IsNumberOfComponents}
use Rattle.realm_insert.specs.State.{State}
use Rattle.realm_insert.specs.Operands.{AreOperands}
use Rattle.realm_insert.proofs.NamedOperands.{none_lacks}
use Rattle.rose_query.specs.Asking.{AnswersAsk, AnswersNum}
use Rattle.rose_query.specs.Replies.{number_reply}
use Rattle.rose_query.specs.Told.{TellsAnswer, TellsMeasure}
use Rattle.rose_query.proofs.NamedKinds.{untaken_kinds, unmeasured_kinds}

-- the predicate's answer is told, or that it doesn't take the values
module _ (s : State) (first second : List ℕ) (a b : Geometry) (are : AreOperands first (Some second) s a (Some b)) where
  pub asked_answers : (pred : Pred) (told : Result Bool HoldsError)
      → IfOk told (λ answer. IsTrue answer ↔ IsTrueOf pred a b)
      → (told ≡ Err WrongTypes) ↔ (takes_kinds pred (kind_of a) (kind_of b) ≡ false) → (reply : List ℕ)
      → TellsAnswer told reply → AnswersAsk pred first second s reply
  asked_answers pred (Ok answer) is_true wrong reply is = inr (
    none_lacks are,
    inr (
      λ cause. let never = wrong.1 ((untaken_kinds pred are).0 cause) in cc,
      record { a = a; b = b; are_operands = are; answer = answer; is_true = is_true; reply_is = is },
    ),
  )
  asked_answers pred (Err WrongTypes) is_true wrong reply is =
      inr (none_lacks are, inl ((untaken_kinds pred are).1 (wrong.0 refl), is))
  asked_answers pred (Err NoMemory) is_true wrong reply is = absurd is

-- the number is told, or that it isn't one of such values
pub measured_answers : (num : Num) (s : State) (first : List ℕ) (second : Option (List ℕ)) (a : Geometry)
    (b : Option Geometry) → AreOperands first second s a b → (reply : List ℕ) → TellsMeasure num a b reply
    → AnswersNum num first second s reply
measured_answers num s first second a b are reply (inl (untaken, is)) =
    inr (none_lacks are, inl ((unmeasured_kinds num second b are).1 untaken, is))
measured_answers num s first second a b are reply (inr (taken, found, is_number, is)) = inr (
  none_lacks are,
  inr (
    λ cause. let untaken = (unmeasured_kinds num second b are).0 cause in cc,
    record { a = a; b = b; are_operands = are; found = found; is_number = is_number; reply_is = is },
  ),
)

-- the number of components is told, of a value of any kind
pub components_measured : (value : Geometry) (n : ℕ) → IsNumberOfComponents value n → (reply : List ℕ)
    → reply ≡ number_reply (Some n) → TellsMeasure NoOfComponents value None reply
components_measured (P points) n counted reply is = inr (refl, Some n, counted, is)
components_measured (L lines) n counted reply is = inr (refl, Some n, counted, is)
components_measured (R border) n counted reply is = inr (refl, Some n, counted, is)
