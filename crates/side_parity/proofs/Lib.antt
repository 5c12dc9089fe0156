-- the words of the proofs, over a picture that has no coordinate below 0
pub mod Regions
-- what holds of each segment of a list
pub mod Each
-- odd numbers of things, and counts
pub mod Parities
-- the ends of an even border
pub mod EvenBorders
-- side numbers as differences of two sums
pub mod Numbers
-- segments that have no place on a straight way, by the columns that they hold
pub mod Ways
-- the same where both ends are between the columns of the way
pub mod Between
-- the parity along a straight way that meets no segment
pub mod Steps
-- places strictly inside a segment of a realm
pub mod Inner
-- a segment itself, and ways that begin strictly inside it
pub mod Itself
-- ways that begin strictly inside a segment, and a whole border
pub mod Beside
-- the sides of a segment, by the parity of any one place strictly inside it
pub mod SidesBy
-- places next to a segment, in any direction
pub mod Near
-- the picture moved off the rim, sides and parities in it
pub mod Images
-- places of segments in the moved picture
pub mod MovedPlaces
-- moved borders
pub mod Pictures
-- all places beside a segment on one side are odd, or all are even
pub mod BothSides
-- what is counted at the middle answers for both sides
pub mod Answered
