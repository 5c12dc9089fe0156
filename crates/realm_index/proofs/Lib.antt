-- the map of the places
pub mod Placed
-- the home square of a box
pub mod Homes
-- keys picked from entries
pub mod Picked
-- sums over the entries of a tree
pub mod Sums
-- what a search through a tree finds
pub mod Searches
-- a square put round a part
pub mod Rounds
-- lists of numbers that don't fall
pub mod Orders
-- sums over the entries of a map
pub mod MapSums
-- what the tests of boxes and squares say
pub mod Boxes
-- what an index answers of its map
pub mod Found
-- one count of the entries as asked
pub mod Counts
-- what the guards of differences tell
mod Guards
-- the entries of parts, and what they lack
pub mod Parts
-- what the tests of a search along a segment say
pub mod Sides
-- what a cover tells of the boxes that it covers
pub mod Covers
-- a cluster and its changes
pub mod Clusters
-- boxes off the line of a segment
pub mod Asides
