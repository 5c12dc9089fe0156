use Rattle.segment_lists.proofs.Searches.{segment_found}
use Rattle.plane_cells.proofs.listing.has.Goals as goal

-- the search tells whether the segment is there
pub returns : goal.returns
returns c =
    rw c.is_ok.ensures.value
    (segment_found c.args.list.now c.args.s.now _ c.requires c.binary_search.ensures.bound c.binary_search.ensures.position)
