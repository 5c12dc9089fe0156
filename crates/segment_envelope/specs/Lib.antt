-- near points
pub mod Near
-- the envelope
pub mod Envelope
-- the two near points of a column
pub mod ColumnPair
-- a segment along its own axis
pub mod Course
