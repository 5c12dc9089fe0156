-- The side number is the greater run times the distance from the place.
use Rattle.std.proofs.Common.{sym}
use Rattle.segment_envelope.proofs.Shapes.{flat_is, steep_is}
use Rattle.segment_envelope.proofs.Distances.{flat_seen, steep_seen, seen_near}
use Rattle.segment_envelope.proofs.laws.near_is_within_one.Goals as goal

-- the width of a flat segment times the distance along the column
pub returns-clause-flat : goal.returns-clause-flat
returns-clause-flat c = λ s p q ordered flat place column.
    seen_near s p _ _ q.w (flat_seen s p q ordered (flat_is s (sym flat)) place column)

-- the height of a steep one times the distance along the row
pub returns-clause-steep : goal.returns-clause-steep
returns-clause-steep c = λ s p q steep place row. seen_near s p _ _ q.w (steep_seen s p q (steep_is s (sym steep)) place row)
