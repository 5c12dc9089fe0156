-- indexes with a key less or a key more
pub mod IndexKeys
-- indexes in which the pieces of a list are put
pub mod PutPieces
-- pieces that are noted with their keys
pub mod NotedPieces
-- indexes in which pieces are forgotten
pub mod ForgottenPieces
-- indexes with a piece that they may have lacked
pub mod MissingPieces
-- boxes that meet
pub mod CommonBoxes
-- pieces whose boxes lie off the line of another
pub mod AsidePieces
-- segments that lead different ways from a common end
pub mod PartedWays
-- points that are explicit or ends of pieces
pub mod Vertices
-- pieces that the index lists, and when no violation is left
pub mod CleanPieces
-- lists of pieces that are made key by key
pub mod ListedPieces
-- steps that the search finds
pub mod FoundSteps
-- which violations the pieces that are still to be looked at cover
pub mod Covering
-- the index after a change
pub mod IndexAfter
-- steps one after the other
pub mod StepsTaken
-- where a trace fails that is taken step by step
pub mod FailedTraces
-- values that an operator is applied to by their names
pub mod NamedOperands
-- that a change draws one figure
pub mod OneFigure
-- that a change leads to one state by one trace
pub mod SameStates
-- a drawing with one more straight original
pub mod PlacedOriginals
-- a drawing with one more explicit point
pub mod MarkedPoints
-- the empty drawing, with which an engine begins
pub mod EmptyDrawing
-- places that stand next to each other on a path
pub mod Neighbours
-- causes of refusals, part by part
pub mod FirstCauses
-- places to draw between
pub mod Drawable
-- straight originals and explicit points that are placed
pub mod PlacedLists
-- an original less, and a point less
pub mod RemovedOriginals
-- links of a chain that is read from its front
pub mod NotedLinks
-- drawings that a change has become, before the first step
pub mod PreparedChanges
-- which points become explicit by a change
pub mod NewPoints
-- ids in a row
pub mod RisingIds
-- values after each part of a change
pub mod KeptValues
-- segments round cycles
pub mod EvenCycles
-- values that were there, after a change
pub mod ChangedValues
-- the value that a change defines
pub mod NewValues
-- that the parts of values ascend, after a change too
pub mod AscendingParts
-- that a change by an operator draws what is drawn already
pub mod DrawnAlready
-- an index in which all pieces are put
pub mod RestoredIndex
-- engines made of snapshots
pub mod RestoredStates
-- that a state is kept by one snapshot
pub mod OneSnapshot
-- that what an engine keeps is a valid state
pub mod KeptStates
