-- how many elements of a list pass a test
pub mod Counts
-- what one change of a set of ways does to the counts, and what its order finds
pub mod WaySets
-- which points are marked after a change
pub mod MarkSets
-- trails that go on and are cut back
pub mod Trails
-- how often ways, trails and cycles join two points
pub mod Joins
-- the steps of a walk, and where it ends
pub mod Steps
-- the ways along the segments of a border
pub mod Borders
-- walks that use a border up
pub mod Uses
