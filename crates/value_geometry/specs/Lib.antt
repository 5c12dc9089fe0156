-- what the parts of a value are in a drawing
pub mod Parts
-- the geometry of a value in a drawing
pub mod Geometry
-- lists of all links of chains, for this crate's own proofs
pub mod Links
