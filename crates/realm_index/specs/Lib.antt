-- indexes as maps from keys to segments, and the keys that an answer has
pub mod Index
-- boxes that lie off the line of a segment
pub mod Aside
-- squares, and the home square of a segment
pub mod Square
-- boxes and squares by tests, for this crate's own proofs
pub mod Bounds
-- what a search in clusters looks for, for this crate's own proofs
pub mod Near
-- trees of squares, for this crate's own proofs
pub mod Branch
-- clusters of entries, for this crate's own proofs
pub mod Cluster
-- segments at the places that their keys count, for this crate's own proofs
pub mod Slots
-- how the tree of an index stands by its map, for this crate's own proofs
pub mod Kept
