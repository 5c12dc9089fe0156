-- What predicates and numbers of values are answered.
use Rattle.std.specs.Prelude.{◌≡◌, ◌⊎◌, ◌↔◌, ℕ, Bool, false, List, [], Option, Some, None}
use Rattle.std.specs.Prelude.{IsTrue, IsSomeAnd, MatchOption}
use Rattle.rose_values.specs.declared.geometry.Geometry.{Geometry}
use Rattle.rose_values.specs.declared.geometry.Geometry.TheVariants.{P, R}
use Rattle.rose_values.specs.declared.operators.Pred.{Pred}
use Rattle.rose_values.specs.declared.operators.Num.{Num}
use Rattle.rose_values.specs.declared.operators.Num.TheVariants.{Area2, Dist2, Diameter2, NoOfComponents}
use Rattle.rose_values.specs.Kinds.{takes_kinds, measures}
use Rattle.rose_predicates.specs.Predicates.{IsTrueOf}
use Rattle.rose_measure.specs.Areas.{IsTwiceTheArea}
use Rattle.rose_measure.specs.Components.{IsNumberOfComponents}
use Rattle.rose_measure.specs.Numbers.{IsEmpty, IsDiameter, IsLeastDistance}
use Rattle.value_table.specs.Table.{NamedValues, value_named}
use Rattle.realm_insert.specs.State.{State}
use Rattle.realm_insert.specs.Operands.{LacksOperand, AreOperands}
use Rattle.realm_insert.specs.declared.refusal.Refusal.TheVariants.{NoName, Types}
use Rattle.rose_query.specs.Causes.{Answer, Unless}
use Rattle.rose_query.specs.Replies.{truth_reply, number_reply}

-- ---- predicates

-- the predicate doesn't take values of the kinds that those with these names have
abbrev pub HasUntakenKinds : Pred → List ℕ → List ℕ → NamedValues → Type 0
HasUntakenKinds pred first second values =
    IsSomeAnd (value_named first values) (λ v. IsSomeAnd (value_named second values)
    (λ w. takes_kinds pred v.kind w.kind ≡ false))

-- the reply tells whether the predicate is true of the values with these names as they are at present
pub record TellsTruth (pred : Pred) (first second : List ℕ) (state : State) (reply : List ℕ)
    : Type 0 where
  pub a : Geometry
  pub b : Geometry
  pub are_operands : AreOperands first (Some second) state a (Some b)
  pub answer : Bool
  pub is_true : IsTrue answer ↔ IsTrueOf pred a b
  pub reply_is : reply ≡ truth_reply answer

-- What a predicate is answered: a name that no value has is the first cause to refuse it, the kinds are the second.
abbrev pub AnswersAsk : Pred → List ℕ → List ℕ → Answer
AnswersAsk pred first second state reply =
    Unless (λ s. LacksOperand first (Some second) s.values) NoName
    (Unless (λ s. HasUntakenKinds pred first second s.values) Types (TellsTruth pred first second)) state reply

-- ---- numbers

-- the number isn't one of values of the kinds that those with these names have
abbrev pub HasUnmeasuredKinds : Num → List ℕ → Option (List ℕ) → NamedValues → Type 0
HasUnmeasuredKinds num first None values =
    IsSomeAnd (value_named first values) (λ v. measures num v.kind None ≡ false)
HasUnmeasuredKinds num first (Some second) values =
    IsSomeAnd (value_named first values) (λ v. IsSomeAnd (value_named second values)
    (λ w. measures num v.kind (Some w.kind) ≡ false))

-- the number of the value or of both, and none where they have none
abbrev pub IsNumberOf : Num → Geometry → Option Geometry → Option ℕ → Type 0
IsNumberOf Area2 (R border) None found = IsSomeAnd found (IsTwiceTheArea border)
IsNumberOf Dist2 (P first) (Some (P second)) found =
    MatchOption found ((first ≡ []) ⊎ (second ≡ [])) (IsLeastDistance first second)
IsNumberOf Diameter2 value None found = MatchOption found (IsEmpty value) (IsDiameter value)
IsNumberOf NoOfComponents value None found = IsSomeAnd found (IsNumberOfComponents value)
IsNumberOf _ _ _ found = ⊥

-- the reply tells the number of the values with these names as they are at present
pub record TellsNumber (num : Num) (first : List ℕ) (second : Option (List ℕ)) (state : State) (reply : List ℕ) : Type 0 where
  pub a : Geometry
  pub b : Option Geometry
  pub are_operands : AreOperands first second state a b
  pub found : Option ℕ
  pub is_number : IsNumberOf num a b found
  pub reply_is : reply ≡ number_reply found

-- What a number is answered, by the same causes.
abbrev pub AnswersNum : Num → List ℕ → Option (List ℕ) → Answer
AnswersNum num first second state reply =
    Unless (λ s. LacksOperand first second s.values) NoName
    (Unless (λ s. HasUnmeasuredKinds num first second s.values) Types (TellsNumber num first second)) state reply
