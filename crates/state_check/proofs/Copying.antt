-- This file shows what lists are that items are copied into one by one.
use Rattle.std.proofs.Common.{◌≡◌, ℕ, ◌+◌, ◌<◌, ◌≤◌, ◌^◌, List, [], ◌∷◌, ◌++◌, length, get_or, take, take_all, All, sym, ap, subst, ◌∙◌}
use Rattle.std.proofs.lemmas.List.{take_more}
use Rattle.std.proofs.lemmas.List.Elements.{All-nil, All-push, recursion_from_All}
use Rattle.record_codec.specs.Fitting.{IsList}

-- ---- a list that is copied from its front
-- the list has the first i of the items, each as P says
pub record IsFront {X : Type 0} (P : X → Type 0) (xs : List X) (i : ℕ) (list : List X) : Type 0 where
  pub are : list ≡ take i xs
  pub all : All P list

pub no_front : {X : Type 0} (P : X → Type 0) (xs list : List X) → list ≡ [] → IsFront P xs 0 list
no_front P xs list is = record { are = is; all = subst (All P) (sym is) (All-nil P) }

-- one more
pub longer_front : {X : Type 0} (P : X → Type 0) (xs : List X) (i : ℕ) (x : X) (list new : List X) → i < length xs
    → x ≡ get_or xs i x → P x → new ≡ list ++ x ∷ [] → IsFront P xs i list → IsFront P xs (i + 1) new
longer_front P xs i x list new within is fits now was = record {
  are = now ∙ ap (λ l. l ++ x ∷ []) was.are ∙ ap (λ y. take i xs ++ y ∷ []) is ∙ sym (take_more xs i x within);
  all = subst (All P) (sym now) (All-push P list x was.all fits);
}

-- all of it
pub whole_front : {X : Type 0} (P : X → Type 0) (xs : List X) (i : ℕ) (list : List X) → length xs ≤ i → IsFront P xs i list
    → list ≡ xs
whole_front P xs i list past was = was.are ∙ take_all i xs past

-- a list that isn't too long has a text where each item has
pub fits_as_list : {X : Type 0} (P : X → Type 0) (list : List X) → length list < 2 ^ 64 → All P list → IsList P list
fits_as_list P list few all = (few, recursion_from_All P list all)
