-- each cause of a refusal holds or doesn't
pub mod Causes
-- what a change draws
pub mod SomeFigure
-- originals in a row, on the grid
pub mod OriginalsInRow
-- what a change makes of a drawing
pub mod SomeChanged
-- what steps keep
pub mod KeptOriginals
-- the texts of traces
pub mod TracesWithTexts
-- what a change makes of values
pub mod SomeValues
-- numbers of the latest traces
pub mod LatestTraces
-- the state after a change
pub mod NewState
-- a change is refused or made
pub mod SomeChange
-- each line has an answer
pub mod LinesAnswered
