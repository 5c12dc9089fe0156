-- how places lie to segments, in whole numbers
pub mod Heights
-- blends of places
pub mod Blends
-- straight ways
pub mod Ways
-- multiples of a place, and a place and itself
pub mod Multiples
-- to be in one class is an equivalence
pub mod ClassLemmas
-- straight ways, cut at the walls
pub mod Cuts
-- in an even border the ends with any property are even in number
pub mod Parities
-- which segments are above a free place
pub mod OverTests
-- how many segments are above the places of one class
pub mod OneParity
-- counts and parities
pub mod Counts
-- fewer segments, larger classes
pub mod FewerSegments
-- the shear that makes the order of points the order of columns
pub mod Shears
-- back from the sheared plane
pub mod Unsheared
-- ways to a place inside a segment, past all others
pub mod PastOthers
-- how a segment itself counts beside it
pub mod OwnSegment
-- how many segments are above a place inside a segment, and beside it
pub mod AtSegment
-- all places beside a segment, on one side
pub mod BesideSegment
-- all places inside a segment
pub mod AlongSegment
-- the two sides of a segment
pub mod TwoSides
-- the border between two classes is one cycle
pub mod OneCycle
-- places of the segments of a realm
pub mod RealmPlaces
-- the sides of a segment, in the words of the definitions
pub mod SideLaws
-- ends that lie on different sides of a place in the plane and in the sheared one
pub mod Wedges
-- odd places in the sheared plane
pub mod ShearedParity
-- the outer class
pub mod Outer
