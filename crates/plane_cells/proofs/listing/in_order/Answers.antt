use Rattle.std.proofs.Common.{◌∙◌, ◌++◌, List, ap, subst}
use Rattle.grid_base.specs.Segment.{GridSegment}
use Rattle.plane_cells.specs.OtherNumbers.{HaveSameSegments}
use Rattle.plane_cells.proofs.listing.in_order.Goals as goal

-- what is put in order is a copy of the list
pub returns-clause-members : goal.returns-clause-members
returns-clause-members c = subst (HaveSameSegments c.ascending_segments.result.items)
    (c.in_ok-extend_from_slice.ensures.items ∙ ap (λ (l : List GridSegment). l ++ c.args.list.now) c.new-copy.ensures.items)
    c.ascending_segments.ensures.same
