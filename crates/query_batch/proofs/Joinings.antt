-- This file shows how replies are put together.
use Rattle.std.proofs.Common.{◌≡◌, ◌+◌, ◌<◌, ℕ, suc, List, [], ◌∷◌, ◌++◌, length, get_or, take, refl, sym, ◌∙◌, ap, arith}
use Rattle.std.specs.List.{concat}
use Rattle.std.proofs.lemmas.List.{append-nil, take_more}
use Rattle.std.proofs.lemmas.List.Folds.{concat-append}
use Rattle.query_batch.specs.Joined.{AreJoined}

-- one reply more
pub joined_more : (replies : List (List ℕ)) (i : ℕ) (reply : List ℕ) → i < length replies → reply ≡ get_or replies i reply
    → concat (take (i + 1) replies) ≡ concat (take i replies) ++ reply
joined_more replies i reply within is =
    ap concat (take_more replies i reply within ∙ ap (λ (r : List ℕ). take i replies ++ r ∷ []) (sym is))
    ∙ concat-append (take i replies) (reply ∷ []) ∙ ap (λ (r : List ℕ). concat (take i replies) ++ r) (append-nil reply)

-- replies that are texts of the items, in their order, are these texts joined
pub joined_by : {A : Type 0} (has_text : A → List ℕ → Type 0) (none : A) (xs : List A) (replies : List (List ℕ))
    → length replies ≡ length xs
    → ((k : ℕ) (d : List ℕ) → k < length xs → has_text (get_or xs k none) (get_or replies k d)) → AreJoined has_text xs (concat replies)
joined_by has_text none [] [] same each = refl
joined_by has_text none [] (r ∷ replies) same each = absurd (omega (arith, same))
joined_by has_text none (x ∷ xs) [] same each = absurd (omega (arith, same))
joined_by has_text none (x ∷ xs) (r ∷ replies) same each = (
  r,
  concat replies,
  each 0 r (omega arith),
  refl,
  joined_by has_text none xs replies (omega (arith, same)) (λ k d lt. each (suc k) d (omega (arith, lt))),
)
