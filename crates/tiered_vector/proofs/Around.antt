-- This file shows a list as one of its elements with what stands before and behind it.
use Rattle.std.proofs.Common.{◌≡◌, ℕ, suc, ◌+◌, ◌-◌, ◌<◌, List, ◌∷◌, ◌++◌, length, get_or, take, drop, insert, remove}
use Rattle.std.proofs.Common.{Result, Ok, Err, OnErr, ap, sym, ◌∙◌, arith}
use Rattle.std.proofs.lemmas.List.{set_split, set-get_or}
use Rattle.std.proofs.lemmas.List.Edits.{insert-append_right, remove-append_right}

module _ {X : Type 0} where
  pub around : (xs : List X) (k : ℕ) (d : X) → k < length xs → xs ≡ take k xs ++ get_or xs k d ∷ drop (suc k) xs
  around xs k d there = sym (set-get_or xs k d) ∙ set_split xs k (get_or xs k d) there

  -- an insert right behind the element at k
  pub insert_behind : (xs ys : List X) (x y : X) (k : ℕ) → length xs ≡ k
      → insert (xs ++ x ∷ ys) (k + 1) y ≡ xs ++ x ∷ y ∷ ys
  insert_behind xs ys x y k e =
      let one : (k + 1) - k ≡ 1 = omega arith in
      insert-append_right xs (x ∷ ys) k (k + 1) y e (omega arith) ∙ ap (λ (j : ℕ). xs ++ insert (x ∷ ys) j y) one

  pub remove_there : (xs ys : List X) (x : X) (k : ℕ) → length xs ≡ k → remove (xs ++ x ∷ ys) k ≡ xs ++ ys
  remove_there xs ys x k e =
      let none : k - k ≡ 0 = omega arith in
      remove-append_right xs (x ∷ ys) k k e (omega arith) ∙ ap (λ (j : ℕ). xs ++ remove (x ∷ ys) j) none

-- what holds, holds on an error
pub on_err : {T E P : Type 0} (r : Result T E) → P → OnErr r P
on_err (Ok x) p = tt
on_err (Err e) p = p
