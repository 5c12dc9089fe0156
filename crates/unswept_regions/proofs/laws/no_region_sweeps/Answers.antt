use Rattle.unswept_regions.proofs.laws.no_region_sweeps.Goals as goal

-- the value is a region of these ids
pub border_is_unswept-requires : goal.border_is_unswept-requires
border_is_unswept-requires c = rw c.in-Ids.is at (rw c.in-R.is at c.requires.geometry).1

pub returns-in-Ids : goal.returns-in-Ids
returns-in-Ids c = rw (c.in-R.is, c.in-Ids.is) c.border_is_unswept.ensures
