-- the distances of two points from a line that parts them
pub mod Distances
-- the crossing of two segments
pub mod Crossings
-- diagonals that cross
pub mod Diagonals
-- how two segments meet
pub mod Meetings
