-- This file shows that the least of numbers, or the greatest, is one of them, and the best.
use Rattle.std.proofs.Common.{◌≡◌, ◌⊎◌, ℕ, min, max, List, [], ◌∷◌, Contains}
use Rattle.std.proofs.Common.{refl, sym, subst, ◌∙◌, inl, inr, ⊎_elim, arith}
use Rattle.std.specs.List.{fold}
use Rattle.grid_base.proofs.Elements.{Contains-here, Contains-later, Contains-cases}
use Rattle.rose_measure.specs.Extremes.{AtMost, AtLeast}

-- the pick of two numbers is one of them, and not worse than either
pub record Picks (pick : ℕ → ℕ → ℕ) (Best : ℕ → ℕ → Type 0) : Type 0 where
  pub one_of : (m n : ℕ) → (pick m n ≡ m) ⊎ (pick m n ≡ n)
  pub first : (m n : ℕ) → Best (pick m n) m
  pub second : (m n : ℕ) → Best (pick m n) n
  pub itself : (n : ℕ) → Best n n
  pub further : (k m n : ℕ) → Best k m → Best m n → Best k n

pub min_picks : Picks min AtMost
min_picks = record {
  one_of = λ m n. grind arith;
  first = λ m n. omega arith;
  second = λ m n. omega arith;
  itself = λ n. omega arith;
  further = λ k m n h g. omega (arith, h, g);
}

pub max_picks : Picks max AtLeast
max_picks = record {
  one_of = λ m n. grind arith;
  first = λ m n. omega arith;
  second = λ m n. omega arith;
  itself = λ n. omega arith;
  further = λ k m n h g. omega (arith, h, g);
}

-- the pick of all numbers is the first, or another of them, and the best
pub record IsPick (Best : ℕ → ℕ → Type 0) (k : ℕ) (ns : List ℕ) (m : ℕ) : Type 0 where
  pub kept : Best m k
  pub best : (n : ℕ) → Contains ns n → Best m n
  pub one_of : (m ≡ k) ⊎ Contains ns m

pub picked_from : (pick : ℕ → ℕ → ℕ) (Best : ℕ → ℕ → Type 0) → Picks pick Best → (k : ℕ) (ns : List ℕ)
    → IsPick Best k ns (fold pick k ns)
picked_from pick Best picks k [] = record {
  kept = picks.itself k;
  best = λ n there. absurd (omega (arith, there.1));
  one_of = inl refl;
}
picked_from pick Best picks k (l ∷ ns) =
    let m = fold pick k (l ∷ ns) in
    let rest : IsPick Best (pick k l) ns m = picked_from pick Best picks (pick k l) ns in
    record {
      kept = picks.further m (pick k l) k rest.kept (picks.first k l);
      best = λ n there. ⊎_elim
          (λ (same : l ≡ n). subst (Best m) same (picks.further m (pick k l) l rest.kept (picks.second k l)))
          (λ later. rest.best n later)
          (Contains-cases l ns n there);
      one_of = ⊎_elim
          (λ (same : m ≡ pick k l). ⊎_elim
          (λ (first : pick k l ≡ k). inl (same ∙ first))
          (λ (second : pick k l ≡ l). inr (subst (Contains (l ∷ ns)) (sym (same ∙ second)) (Contains-here l ns)))
          (picks.one_of k l))
          (λ later. inr (Contains-later l ns m later))
          rest.one_of;
    }
