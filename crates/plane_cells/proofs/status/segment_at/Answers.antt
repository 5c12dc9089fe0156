use Rattle.plane_cells.proofs.Parts.{numbered_read}
use Rattle.plane_cells.proofs.status.segment_at.Goals as goal

-- the number that was read is that of a segment of the border
pub returns : goal.returns
returns c =
    numbered_read c.args.border.now c.args.status.now c.args.place c.index.result.now c.index-border-index.result c.requires.numbers
    c.requires.within c.index.ensures c.index-border-index.is
