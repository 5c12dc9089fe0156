-- lists in order
pub mod InOrder
-- drawings with an original more, or a point
pub mod Placed
-- lists of points that stand in pairs
pub mod Evenness
-- originals by their ids, and their ends
pub mod PartEnds
-- tables with a value more
pub mod TableLemmas
-- names are ASCII
pub mod NameBytes
-- lists that items are copied into
pub mod Copying
