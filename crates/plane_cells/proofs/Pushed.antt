-- This file shows what holds at each place of a list when one more element is pushed.
use Rattle.std.proofs.Common.{◌≡◌, ◌⊎◌, ℕ, zero, suc, ◌+◌, ◌<◌, List, [], ◌∷◌, ◌++◌, length, get_or, sym, ap, subst, ◌∙◌, arith, inl, inr}
use Rattle.std.proofs.Common.{refl}

pub read_left : {X : Type 0} (l m : List X) (i : ℕ) (e : X) → i < length l → get_or (l ++ m) i e ≡ get_or l i e
read_left [] m i e h = absurd (omega (arith, h))
read_left (x ∷ l) m zero e h = refl
read_left (x ∷ l) m (suc i) e h = read_left l m i e (omega (arith, h))

pub read_end : {X : Type 0} (l : List X) (x e : X) → get_or (l ++ x ∷ []) (length l) e ≡ x
read_end [] x e = refl
read_end (y ∷ l) x e = read_end l x e

pushed_count : {X : Type 0} (l : List X) (x : X) → length (l ++ x ∷ []) ≡ length l + 1
pushed_count [] x = refl
pushed_count (y ∷ l) x = let e = pushed_count l x in omega (arith, e)

-- the list has m elements, and Q holds of each with its place
pub record EachAt {X : Type 0} (Q : ℕ → X → Type 0) (e : X) (m : ℕ) (l : List X) : Type 0 where
  pub count : length l ≡ m
  pub each : (i : ℕ) → i < m → Q i (get_or l i e)

pub one_more_at : {X : Type 0} (Q : ℕ → X → Type 0) (e : X) (m : ℕ) (l k : List X) (x : X) → EachAt Q e m l → k ≡ l ++ x ∷ [] → Q m x
    → EachAt Q e (m + 1) k
one_more_at {X} Q e m l k x h same q = subst (EachAt Q e (m + 1)) (sym same) (record {
  count = omega (arith, pushed_count l x, h.count);
  each = λ i a. go i (parts i a);
})
  where
    parts : (i : ℕ) → i < m + 1 → (i < m) ⊎ (i ≡ m)
    parts i h = grind arith

    go : (i : ℕ) → (i < m) ⊎ (i ≡ m) → Q i (get_or (l ++ x ∷ []) i e)
    go i (inl a) = subst (Q i) (sym (read_left l (x ∷ []) i e (omega (arith, a, h.count)))) (h.each i a)
    go i (inr a) = subst (λ (j : ℕ). Q j (get_or (l ++ x ∷ []) j e)) (sym a)
        (subst (Q m) (sym (ap (λ (j : ℕ). get_or (l ++ x ∷ []) j e) (sym h.count) ∙ read_end l x e)) q)
