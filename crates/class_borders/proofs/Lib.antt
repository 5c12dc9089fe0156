-- segments that begin at one point, by their angles
pub mod Fans
-- the status, parted at a vertex
pub mod Splits
-- the first end behind a wall
pub mod FirstEnds
-- sweeps over all segments
pub mod RealmSweeps
-- the labels under segments, from the steps of a sweep
pub mod RightLabels
-- how many numbers pass a test
pub mod Tallies
-- as many segments in as out, round a vertex
pub mod Rounds
-- the sweep of a realm
pub mod EachSwept
-- how many links along the border of a class pass a test
pub mod LinkCounts
-- as many links in as out at each point, along the border of a class
pub mod ClassTurns
-- the segments with a class on one side alone
pub mod EvenRims
-- cycles that go with links, or against them
pub mod Aligned
-- a segment beside the outer class
pub mod SomeOuter
-- the border between two classes is one cycle
pub mod OneCycles
-- the odd places of a rim
pub mod RimPlaces
-- which way a cycle along the border of a class goes
pub mod OneWays
