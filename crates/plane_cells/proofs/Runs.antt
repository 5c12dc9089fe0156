-- This file shows what a list is while a run of it gives way to other elements, one after another.
use Rattle.std.proofs.Common.{◌≡◌, ℕ, ◌+◌, ◌-◌, ◌<◌, ◌≤◌, List, ◌∷◌, ◌++◌, length, get_or, take, drop, insert, remove}
use Rattle.std.proofs.Common.{ap, sym, ◌∙◌, arith}
use Rattle.std.proofs.lemmas.List.{drop_more, length-take-le}
use Rattle.std.proofs.lemmas.List.Edits.{insert-append_right, remove-append_right}

-- the run goes on to just before `at`, and its element there is taken out too
pub one_out : (l : List ℕ) (lo at : ℕ) → lo ≤ at → at < length l
    → remove (take lo l ++ drop at l) lo ≡ take lo l ++ drop (at + 1) l
one_out l lo at h k =
    let none : lo - lo ≡ 0 = omega arith in
    remove-append_right (take lo l) (drop at l) lo lo (length-take-le lo l (omega (arith, h, k))) (omega arith)
    ∙ ap (λ (j : ℕ). take lo l ++ remove (drop at l) j) none
    ∙ ap (λ (m : List ℕ). take lo l ++ remove m 0) (drop_more l at 0 k)

-- before those new elements that are in already comes one more
pub one_in : (l new : List ℕ) (lo k x : ℕ) → lo ≤ length l → k < length new → x ≡ get_or new k x
    → insert (take lo l ++ (drop (k + 1) new ++ drop lo l)) lo x ≡ take lo l ++ (drop k new ++ drop lo l)
one_in l new lo k x h i e =
    let none : lo - lo ≡ 0 = omega arith in
    insert-append_right (take lo l) (drop (k + 1) new ++ drop lo l) lo lo x (length-take-le lo l h) (omega arith)
    ∙ ap (λ (j : ℕ). take lo l ++ insert (drop (k + 1) new ++ drop lo l) j x) none
    ∙ ap (λ (y : ℕ). take lo l ++ (y ∷ (drop (k + 1) new ++ drop lo l))) e
    ∙ ap (λ (m : List ℕ). take lo l ++ (m ++ drop lo l)) (sym (drop_more new k x i))
