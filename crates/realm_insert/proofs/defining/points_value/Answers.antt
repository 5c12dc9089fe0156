use Rattle.std.proofs.Common.{◌≡◌, ◌↔◌, List, Contains, AllPairs, IsPermutation, refl, sym, subst, ◌∙◌}
use Rattle.std.specs.List.{dedup}
use Rattle.std.proofs.lemmas.List.Filters.{dedup_is}
use Rattle.std.proofs.lemmas.List.Sorted.{Contains-permutation, IsPermutation-sym}
use Rattle.grid_base.specs.Point.{GridPoint, IsBefore, is_point}
use Rattle.grid_base.proofs.Orders.{points_ascend, points_stay}
use Rattle.realm_insert.proofs.defining.points_value.Goals as goal

-- what is sorted, and kept once, is what there was
same_points : (all sorted : List GridPoint) → IsPermutation all sorted → (p : GridPoint)
    → Contains (dedup is_point sorted) p ↔ Contains all p
same_points all sorted moved p =
    let there = Contains-permutation sorted all p (IsPermutation-sym all sorted moved) in
    let back = Contains-permutation all sorted p moved in
    let once = points_stay sorted p in
    (λ h. there (once.0 h), λ h. once.1 (back h))

-- the points are sorted, and then each is kept once
pub new-requires : goal.new-requires
new-requires c =
    let sorted = c.sort_unstable.new.self.items in
    rw (dedup_is _ _ _ c.dedup.ensures.filtered) (points_ascend sorted c.sort_unstable.ensures.sorted)

pub returns : goal.returns
returns c =
    let sorted = c.sort_unstable.new.self.items in
    let kept : c.dedup.new.self.items ≡ dedup is_point sorted = dedup_is _ _ _ c.dedup.ensures.filtered in
    let once = c.new.ensures ∙ kept in
    record {
      list = c.new.result;
      is_points = refl;
      ascending = subst (AllPairs IsBefore) (sym once) (points_ascend sorted c.sort_unstable.ensures.sorted);
      exact = λ p. subst (λ (l : List GridPoint). Contains l p ↔ Contains c.args.points.items p) (sym once)
          (same_points c.args.points.items sorted c.sort_unstable.ensures.permutation p);
    }
