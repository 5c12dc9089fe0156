-- This file shows what follows of facts of an outcome.
use Rattle.std.proofs.Common.{◌≡◌, ap, subst}
use Rattle.std.specs.Result.{IsErrAnd}
use Rattle.std.specs.Prelude.{Result, Ok, Err, IfErr, OnOk, Option, Some, None, MatchOption}

pub both_ok : {T E P Q R : Type 0} (r : Result T E) → (P → Q → R) → OnOk r P → OnOk r Q → OnOk r R
both_ok (Ok x) then first second = then first second
both_ok (Err e) then first second = tt

pub at_some : {A : Type 0} (P : Type 0) (Q : A → Type 0) {o : Option A} {x : A} → o ≡ Some x → MatchOption o P Q → Q x
at_some P Q is match = subst (λ o. MatchOption o P Q) is match

pub at_none : {A : Type 0} (P : Type 0) (Q : A → Type 0) {o : Option A} → o ≡ None → MatchOption o P Q → P
at_none P Q is match = subst (λ o. MatchOption o P Q) is match

-- what the exit of a `?` says of its error
pub err_by : {T E : Type 0} {P Q : E → Type 0} (r : Result T E) → IsErrAnd r P → ((e : E) → P e → Q e) → IfErr r Q
err_by (Ok x) is then = tt
err_by (Err e) is then = then e is

pub err_is : {T E : Type 0} {e : E} (r : Result T E) → IsErrAnd r (λ x. x ≡ e) → r ≡ Err e
err_is (Ok x) is = absurd is
err_is (Err x) is = ap (λ y. Err y) is
