use Rattle.rose_measure.proofs.Ways.{points_apart}
use Rattle.rose_measure.proofs.directions.lies_apart.Goals as goal

-- the gap along the way is at least as long as what was found
pub returns : goal.returns
returns c told =
    let shown = c.is_gap.ensures told in
    points_apart _ _ _ _ _ _ _ _ _ _ _ _ _ _ _ c.span_along-behind.ensures.has c.span_along-ahead.ensures.has
    c.saturating_sub.ensures shown.0 shown.1
