use Rattle.std.proofs.Common.{◌≡◌, List, Any, inl, inr, refl, subst}
use Rattle.realm_insert.specs.declared.asked.Ends.{Ends}
use Rattle.realm_insert.proofs.FirstCauses.{denied}
use Rattle.realm_insert.proofs.causes.malformed.Goals as goal

-- all places are on the grid there
pub returns-then-has_short_list : goal.returns-then-has_short_list
returns-then-has_short_list c = λ s. inr (
  denied c.is_out_of_range.result c.is_out_of_range.ensures c.if-is_out_of_range.false,
  inl (c.has_short_list.ensures.0 c.if-has_short_list.true, refl),
)

-- and no list is short
pub returns-then-is_degenerate : goal.returns-then-is_degenerate
returns-then-is_degenerate c = λ s. inr (
  denied c.is_out_of_range.result c.is_out_of_range.ensures c.if-is_out_of_range.false,
  inr (
    denied c.has_short_list.result c.has_short_list.ensures c.if-has_short_list.false,
    inl (
      subst (λ (l : List Ends). Any (λ (e : Ends). e.from ≡ e.to) l) c.requires.ends
          (c.is_degenerate.ensures.0 c.if-is_degenerate.true),
      refl,
    ),
  ),
)
