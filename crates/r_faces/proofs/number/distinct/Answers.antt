use Rattle.std.proofs.Common.{Contains, eqb, subst, sym}
use Rattle.std.proofs.lemmas.List.Filters.{dedup_is}
use Rattle.std.proofs.lemmas.List.Kept.{Contains-dedup_nat, Contains-from_dedup}
use Rattle.std.proofs.lemmas.List.Sorted.{Contains-permutation, IsPermutation-sym}
use Rattle.std.proofs.lemmas.Map.Keys.{IsStrictlyIncreasing-dedup}
use Rattle.r_faces.proofs.number.distinct.Goals as goal

-- a sorted list without repeats ascends strictly
pub returns-clause-ascending : goal.returns-clause-ascending
returns-clause-ascending c = rw (dedup_is _ _ _ c.dedup.ensures.filtered)
    (IsStrictlyIncreasing-dedup c.sort_unstable.new.self.items c.sort_unstable.ensures.sorted)

-- and has the same numbers
pub returns-clause-same : goal.returns-clause-same
returns-clause-same c n =
    let is = dedup_is _ _ _ c.dedup.ensures.filtered in
    let sorted = c.sort_unstable.new.self.items in (
      λ there. Contains-permutation _ _ n (IsPermutation-sym _ _ c.sort_unstable.ensures.permutation)
          (Contains-from_dedup eqb sorted n (subst (λ l. Contains l n) is there)),
      λ there. subst (λ l. Contains l n) (sym is)
          (Contains-dedup_nat sorted n (Contains-permutation _ _ n c.sort_unstable.ensures.permutation there)),
    )
