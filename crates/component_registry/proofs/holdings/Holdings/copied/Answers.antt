use Rattle.std.proofs.Common.{◌∙◌, ap}
use Rattle.std.specs.FinMap as map
use Rattle.grid_base.specs.Segment.{segment_cmp}
use Rattle.component_registry.proofs.Copies.{same_entries, matches_copied}
use Rattle.component_registry.proofs.holdings.Holdings.copied.Goals as goal

-- the clones match as the map and the slab do
pub invariant_of-result : goal.invariant_of-result
invariant_of-result c =
    matches_copied _ _ _ _ c.in_ok-clone.ensures.cases c.in_ok-clone-2.ensures.cases c.self.invariant

-- the map's clone has the same entries
pub returns : goal.returns
returns c = record {
  same =
      ap (map.from_entries {R = segment_cmp}) (same_entries c.self.inside.pieces c.in_ok-clone.field-0 c.in_ok-clone.ensures.cases)
      ∙ c.self.view_is;
}
