use Rattle.std.proofs.Common.{ℕ, List, subst, sym, eqb}
use Rattle.std.specs.Prelude.{Contains}
use Rattle.std.specs.List.{dedup}
use Rattle.std.proofs.lemmas.List.Filters.{dedup_is}
use Rattle.std.proofs.lemmas.List.Kept.{Contains-dedup_nat, Contains-from_dedup}
use Rattle.std.proofs.lemmas.List.Sorted.{Contains-permutation, IsPermutation-sym}
use Rattle.std.proofs.lemmas.Map.Keys.{IsStrictlyIncreasing-dedup}
use Rattle.plane_cells.proofs.columns.vertices.Goals as goal

-- a sorted list without repeats ascends strictly
pub returns-clause-ascending : goal.returns-clause-ascending
returns-clause-ascending c = rw (dedup_is _ _ _ c.dedup.ensures.filtered)
    (IsStrictlyIncreasing-dedup c.sort_unstable.new.self.items c.sort_unstable.ensures.sorted)

-- and has the same numbers
pub returns-clause-all : goal.returns-clause-all
returns-clause-all c n m =
    rw (dedup_is _ _ _ c.dedup.ensures.filtered) (Contains-dedup_nat c.sort_unstable.new.self.items n
    (Contains-permutation _ _ n c.sort_unstable.ensures.permutation (subst (λ (l : List ℕ). Contains l n) (sym c.in_ok-columns.ensures) m)))

pub returns-clause-only : goal.returns-clause-only
returns-clause-only c n m =
    let k : Contains (dedup eqb c.sort_unstable.new.self.items) n = subst (λ (l : List ℕ). Contains l n)
    (dedup_is _ _ _ c.dedup.ensures.filtered) m in
    subst (λ (l : List ℕ). Contains l n) c.in_ok-columns.ensures
    (Contains-permutation _ _ n (IsPermutation-sym _ _ c.sort_unstable.ensures.permutation)
    (Contains-from_dedup eqb c.sort_unstable.new.self.items n k))
