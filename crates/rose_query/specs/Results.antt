-- What is told of an operator's result. No public clause cites this file.
use Rattle.std.specs.Prelude.{◌≡◌, ℕ, List, Result, Ok, Err}
use Rattle.rose_values.specs.declared.geometry.Geometry.{Geometry}
use Rattle.rose_overlay.specs.declared.evaluating.EvalError.{EvalError}
use Rattle.rose_overlay.specs.declared.evaluating.EvalError.TheVariants.{WrongTypes, NoMemory}
use Rattle.rose_operators.specs.Results.{IsAscending}
use Rattle.realm_insert.specs.declared.refusal.Refusal.TheVariants.{Types}
use Rattle.rose_query.specs.Replies.{no_reply, value_reply}

-- the reply lists the result, or says that the operator doesn't take the values
abbrev pub TellsResult : Result Geometry EvalError → List ℕ → Type 0
TellsResult (Ok made) reply = IsAscending made × (reply ≡ value_reply made)
TellsResult (Err WrongTypes) reply = reply ≡ no_reply Types
TellsResult (Err NoMemory) reply = ⊥
