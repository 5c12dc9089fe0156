-- This file shows that what is told of an operator's result answers the query.
use Rattle.std.proofs.Common.{◌≡◌, ◌↔◌, ℕ, List, Option, None, Result, Ok, Err, IfOk, refl, inl, inr}
use Rattle.std.specs.Prelude.{option_map}
use Rattle.rose_values.specs.declared.geometry.Geometry.{Geometry}
use Rattle.rose_values.specs.declared.operators.Op.{Op}
use Rattle.rose_values.specs.Geometry.{kind_of}
use Rattle.rose_values.specs.Kinds.{result_kind_of}
use Rattle.rose_overlay.specs.declared.evaluating.EvalError.{EvalError}
use Rattle.rose_overlay.specs.declared.evaluating.EvalError.TheVariants.{WrongTypes, NoMemory}
use Rattle.rose_operators.specs.Results.{IsResultOf}
use Rattle.realm_insert.specs.State.{State}
use Rattle.realm_insert.specs.Operands.{AreOperands}
use Rattle.realm_insert.proofs.NamedOperands.{none_lacks, wrong_kinds}
use Rattle.rose_query.specs.Answers.{AnswersEval}
use Rattle.rose_query.specs.Results.{TellsResult}

-- the result of the operator is told
module _ (state : State) (first : List ℕ) (second : Option (List ℕ)) (a : Geometry) (b : Option Geometry)
    (are : AreOperands first second state a b) where
  pub told_answers : (op : Op) (made : Result Geometry EvalError) → IfOk made (λ g. IsResultOf op a b g)
      → (made ≡ Err WrongTypes) ↔ (result_kind_of op (kind_of a) (option_map kind_of b) ≡ None) → (reply : List ℕ)
      → TellsResult made reply → AnswersEval op first second state reply
  told_answers op (Ok g) is_made wrong reply (ascending, is) = inr (
    none_lacks are,
    inr (
      λ cause. let never = wrong.1 ((wrong_kinds op second b are).0 cause) in cc,
      record {
        made = g;
        is_made = record { a = a; b = b; are_operands = are; is_made = is_made; ascending = ascending };
        reply_is = is;
      },
    ),
  )
  told_answers op (Err WrongTypes) is_made wrong reply is =
      inr (none_lacks are, inl ((wrong_kinds op second b are).1 (wrong.0 refl), is))
  told_answers op (Err NoMemory) is_made wrong reply is = absurd is
