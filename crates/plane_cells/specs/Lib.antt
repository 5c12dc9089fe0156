-- the segments of a list by their numbers
pub mod Numbered
-- numbers for the classes of sides
pub mod ClassNumbers
-- whether sides of segments are outer
pub mod OuterSides
-- ---- for this crate's own proofs: segments with the outer class on one side
pub mod Rims
-- the classes in which other segments lie
pub mod OtherNumbers
-- the steps of a sweep, and the labels of gaps
pub mod Steps
-- the order of segments
pub mod Order
-- the sheared plane
pub mod Sheared
-- what the sweep looks for
pub mod Scan
-- sweeps
pub mod Walks
-- the labels of places
pub mod Labels
-- how far a sweep has come
pub mod Swept
