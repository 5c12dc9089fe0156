-- what flat, steep and diagonal segments are, by their runs
pub mod Shapes
-- the size of a side number, as a gap between naturals
pub mod Sizes
-- ranges under a factor
pub mod Ranges
-- how far a point is from the place of its column or row
pub mod Distances
-- segments with their ends in either order, and with columns and rows exchanged
pub mod Ways
-- a segment along its own axis, and its place in each column
pub mod Courses
-- the two points next to the place of a column
pub mod Pairs
-- grid points at most half a step from a place
pub mod HalfSteps
-- numbers rounded to the nearest whole number, and ties
pub mod Roundings
-- places of a diagonal, and grid points on it
pub mod Diagonals
-- the corners of a cell whose centre is a place
pub mod Corners
-- places that are rounded
pub mod RoundedPlaces
-- the meet point of two segments
pub mod MeetPoints
