-- answers that tell whether something holds
pub mod Truths
-- grid points as places of segments
pub mod GridPoints
-- points values, and lines values, as sets of places
pub mod PointSets
-- places beside a segment, off two borders
pub mod RegionSides
-- regions, as sets of places
pub mod RegionSets
-- lines and a region, as sets of places
pub mod LinesAndRegions
-- points and a region, as sets of places
pub mod PointsAndRegions
-- ways in the outer class of a border, and areas that they don't come to
pub mod OuterWays
-- sides that are odd for one border and outer for another
pub mod OpenSides
-- what the boxes of two values tell
pub mod BoxedValues
