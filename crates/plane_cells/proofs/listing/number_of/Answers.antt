use Rattle.std.proofs.Common.{◌∙◌}
use Rattle.grid_base.proofs.Elements.{same_place}
use Rattle.plane_cells.specs.Numbered.{nowhere}
use Rattle.segment_lists.proofs.Searches.{segment_at}
use Rattle.plane_cells.proofs.listing.number_of.Goals as goal

-- the search finds the segment
pub returns-in-Ok-2-clause-within : goal.returns-in-Ok-2-clause-within
returns-in-Ok-2-clause-within c =
    (segment_at c.args.list.now c.args.s.now c.binary_search.result c.in-Ok.i c.requires.ascending c.binary_search.ensures.bound
    c.binary_search.ensures.position c.requires.there c.in-Ok.is).0

pub returns-in-Ok-2-clause-number : goal.returns-in-Ok-2-clause-number
returns-in-Ok-2-clause-number c =
    let at = segment_at c.args.list.now c.args.s.now c.binary_search.result c.in-Ok.i c.requires.ascending c.binary_search.ensures.bound
    c.binary_search.ensures.position c.requires.there c.in-Ok.is in
    same_place c.args.list.now c.in-Ok.i nowhere c.args.s.now at.0 ∙ at.1
