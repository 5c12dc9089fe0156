-- This file shows what one change of the counts does to those of other points, and that none is 0.
use Rattle.std.proofs.Common.{◌≡◌, ◌↔◌, ℕ, ◌<◌, Option, Some, None, IsSome, is_some, unwrap_or}
use Rattle.std.proofs.Common.{refl, sym, ap, ◌∙◌, subst, ⊎_elim, true≢false, arith}
use Rattle.std.specs.HashMap as hash
use Rattle.std.proofs.lemmas.Option.{same_Some, none-some}
use Rattle.grid_base.specs.Point.{GridPoint, is_point}
use Rattle.component_registry.specs.Ends.{Counts, found_in, uses_in, HasNoZero, SameUses, SameOtherUses}
use Rattle.component_registry.proofs.Lookups.{this_point_or_other, other_point}

module _ {S : Type 0} where
  -- the map finds of other points what it found
  pub others_found : (old new : Counts S) (p : GridPoint) (o : Option ℕ) → hash.Updates is_point old new p o
      → SameOtherUses old new p
  others_found old new p o updates q other = updates.2 q (other_point p q other)

  -- a count that is put isn't 0
  pub no_zero_put : (old new : Counts S) (p : GridPoint) (n : ℕ) → hash.Updates is_point old new p (Some n) → 0 < n
      → HasNoZero old → HasNoZero new
  no_zero_put old new p n updates some no_zero q k at = ⊎_elim
      (λ same. subst (λ x. 0 < x) (same_Some n k (sym updates.1 ∙ ap (found_in new) (sym same) ∙ at)) some)
      (λ other. no_zero q k (sym (others_found old new p (Some n) updates q other) ∙ at))
      (this_point_or_other p q)

  -- nor is one after a count was taken out
  pub no_zero_gone : (old mid new : Counts S) (p : GridPoint) → SameOtherUses old mid p → hash.Updates is_point mid new p None
      → HasNoZero old → HasNoZero new
  no_zero_gone old mid new p others updates no_zero q k at = ⊎_elim
      (λ same. absurd (none-some k (sym updates.1 ∙ ap (found_in new) (sym same) ∙ at)))
      (λ other. no_zero q k (sym (others q other) ∙ sym (others_found mid new p None updates q other) ∙ at))
      (this_point_or_other p q)

  -- ---- a write through what the map lent
  updates_through : (old new : Counts S) (p : GridPoint) (was is : ℕ) → found_in old p ≡ Some was
      → hash.WritesThrough is_point (is_point p) old is new → hash.Updates is_point old new p (Some is)
  updates_through old new p was is there wrote = wrote.3 (ap is_some there)

  pub others_written : (old new : Counts S) (p : GridPoint) (was is : ℕ) → found_in old p ≡ Some was
      → hash.WritesThrough is_point (is_point p) old is new → SameOtherUses old new p
  others_written old new p was is there wrote = others_found old new p (Some is) (updates_through old new p was is there wrote)

  pub no_zero_written : (old new : Counts S) (p : GridPoint) (was is : ℕ) → found_in old p ≡ Some was
      → hash.WritesThrough is_point (is_point p) old is new → 0 < is → HasNoZero old → HasNoZero new
  no_zero_written old new p was is there wrote = no_zero_put old new p is (updates_through old new p was is there wrote)

  -- ---- all counts
  pub same_uses : (old new : Counts S) → SameUses old new → (p : GridPoint) → uses_in new p ≡ uses_in old p
  same_uses old new same p = ap (λ o. unwrap_or o 0) (same p)

  pub no_zero_kept : (old new : Counts S) → SameUses old new → HasNoZero old → HasNoZero new
  no_zero_kept old new same no_zero p n at = no_zero p n (sym (same p) ∙ at)

  -- a point is used exactly where the map has it
  pub used_where_found : (ends : Counts S) → HasNoZero ends → (p : GridPoint) → IsSome (found_in ends p) ↔ (0 < uses_in ends p)
  used_where_found ends no_zero p = by_count (found_in ends p) refl
    where
      by_count : (o : Option ℕ) → found_in ends p ≡ o → IsSome o ↔ (0 < unwrap_or o 0)
      by_count None is = (λ there. absurd (true≢false (sym there)), λ used. absurd (omega (arith, used)))
      by_count (Some n) is = (λ there. no_zero p n is, λ used. refl)
