-- This file shows that the first cause is found where parts of the list are looked at one after the other.
use Rattle.std.proofs.Common.{◌≡◌, ◌↔◌, Bool, false, IsTrue, List, [], ◌∷◌, ◌++◌, Option, Some, None, Err, inl, inr}
use Rattle.line_grammar.specs.declared.command.Change.{Change}
use Rattle.realm_insert.specs.State.{State}
use Rattle.realm_insert.specs.Work.{FindsFigure}
use Rattle.realm_insert.specs.Refusals.{HasNoneOf, IsFirstOf, FindsFirst}
use Rattle.realm_insert.specs.declared.refusal.ChangeError.{ChangeError}
use Rattle.realm_insert.specs.declared.refusal.ChangeError.TheVariants.{Refused, NoMemory}
use Rattle.realm_insert.specs.declared.refusal.Refusal.{Refusal}

-- what a test denies isn't so
pub denied : {P : Type 0} (answer : Bool) → (IsTrue answer ↔ P) → answer ≡ false → P → ⊥
denied answer exact is_false holds = let is_true = exact.1 holds in absurd cc

-- the first of a part that begins the list is the first of the list
pub first_within : (list more : List Refusal) (c : Change) (s : State) (found : Refusal) → IsFirstOf list c s found
    → IsFirstOf (list ++ more) c s found
first_within [] more c s found first = absurd first
first_within (r ∷ list) more c s found (inl here) = inl here
first_within (r ∷ list) more c s found (inr (none, later)) = inr (none, first_within list more c s found later)

-- and the first of the others is it where the part has none
pub first_after : (list more : List Refusal) (c : Change) (s : State) (found : Option Refusal) → HasNoneOf list c s
    → FindsFirst more c s found → FindsFirst (list ++ more) c s found
first_after [] more c s found none finds = finds
first_after (r ∷ list) more c s None none finds = (none.0, first_after list more c s None none.1 finds)
first_after (r ∷ list) more c s (Some found) none finds =
    inr (none.0, first_after list more c s (Some found) none.1 finds)

-- what is refused by a part that begins the list is refused by the list
pub refused_within : (list more : List Refusal) (c : Change) (s : State) (e : ChangeError) → FindsFigure list c s (Err e)
    → FindsFigure (list ++ more) c s (Err e)
refused_within list more c s (Refused word) finds = first_within list more c s word finds
refused_within list more c s NoMemory finds = tt
