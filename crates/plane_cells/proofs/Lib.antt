-- a way off a segment
pub mod OneSide
-- left and right
pub mod Sided
-- lists that are pushed to
pub mod Pushed
-- up and down in a column
pub mod Vertical
-- along a segment, and in the column of a point
pub mod AlongSegments
-- the order of segments in common columns
pub mod Lower
-- lists of segment numbers
pub mod Lists
-- links between labels
pub mod Links
-- the label of a place
pub mod Labels
-- sweeps, in a position without vertical segments
pub mod Walks
-- free places in the column of a vertex
pub mod AtVertices
-- places that touch one cell have linked labels
pub mod Complete
-- places in gaps
pub mod InGaps
-- ways within a slab
pub mod SlabWays
-- ways in one slab
pub mod InSlabs
-- places on walls
pub mod OnWalls
-- places with linked labels are in one class
pub mod Sound
-- the label beside a segment
pub mod Beside
-- linked labels, one class
pub mod Numbered
-- the status behind a wall
pub mod Statuses
-- the status behind a vertex
pub mod Next
-- steps, one after another
pub mod Chains
-- a realm in the sheared plane
pub mod ShearedRealm
-- the sides of a realm's segments by the sweep in the sheared plane
pub mod ShearedSides
-- segments that begin at one point
pub mod Angles
-- front parts and back parts of lists
pub mod Parts
-- a run that gives way
pub mod Runs
-- a segment among those that begin with it
pub mod Inserts
-- one step of the sweep
pub mod Turning
-- the parts of the status at a vertex
pub mod VertexParts
-- a step of the code is a step of the sweep
pub mod StepOn
-- labels under segments, in a list
pub mod Rights
-- what passing a vertex asks and gives
pub mod Passing
-- the sweep from its beginning to its end
pub mod Whole
-- loops that keep some segments of a list
pub mod Kept
-- each class but the outer one has a side
pub mod EveryClass
-- numbers of sides
pub mod Numbering
-- straight up and down from a segment
pub mod FarUp
-- places beside segments
pub mod SomeBeside
-- each side of a realm's segment has a place beside it
pub mod EachSide
-- segments that are not of the border
pub mod Asked
-- whether another segment is in the outer class
pub mod AskedOuter
-- what a segment that is asked for finds
pub mod AskedLabels
-- one more segment is asked for
pub mod Asking
-- answers for other segments
pub mod Outers
-- lists in any order
pub mod AnyOrder
-- a segment that isn't of the border
pub mod OtherOfRealm
-- from the premise of the public calls
pub mod OfRealm
-- what changes in a column
pub mod ColumnChanges
-- counts over all numbers and over a status
pub mod StatusCounts
-- how many dividing segments are above a place
pub mod ColumnParity
-- how many dividing segments begin or end at a point
pub mod EveryEnd
-- the segments with the outer class on one side, counted
pub mod RimCounts
-- the region of all that isn't outer
pub mod ShutIn
