-- lists whose elements have partners in another list
mod Partners
-- a cycle is decided by its links
mod OneCycle
-- the faces of a region
mod OneFace
-- the numbers of a value
mod OneNumber
-- the numbers of the values that a query names
mod OneMeasure
-- sums, parts, overlays and fusions
mod OneSet
-- the reply to a query
mod OneQuery
-- the payload of a state
mod OnePayload
-- a state that fits into pages has one
mod SomePayload
-- room for a record, or what is lacking
pub mod Rooms
-- what a change comes to
mod OneChange
-- the reply to a line
pub mod OneLine
-- what can be decided
pub mod Decisions
-- what is in a list, in order
pub mod Listings
-- the geometry of each value
mod SomeGeometry
-- what operators, predicates and numbers are applied to
pub mod SomeOperands
-- what operators make
pub mod SomeMade
-- predicates that hold or don't
mod SomeTruth
-- a least and a greatest distance are there
mod Picks
-- areas, distances and widths
mod SomeNumber
-- numbers of the classes of a border
mod SomeClassNumbers
-- a border that shuts in the area of another, or doesn't
mod SomeEnclosures
-- how many connected parts lines have, and faces a region
mod SomeComponents
-- an even border is cut into cycles
mod SomeCycles
-- cycles in order, each from its least vertex on
mod SortedCycles
-- the faces of a region
mod SomeFaces
-- states that pages keep are drawn on the grid
mod KeptOnGrid
-- the sum of values of one kind
mod SomeSums
-- the parts of a value
mod SomeParts
-- the overlay of two lists of regions
mod SomeOverlay
-- replies to queries of lists of values
mod SomeSets
-- replies to queries
mod SomeReply
-- replies to lines
pub mod SomeAnswer
