-- which record a block is the text of
pub mod Preparing
-- that what was synced is stable
pub mod StableFiles
-- what torn writes leave of a file with a gate
pub mod TornGates
-- where an append ends
pub mod AppendExits
-- how a gate is shut
pub mod ShutGates
-- how records are read one after another
pub mod Scans
-- which records bytes hold
pub mod HandingLemmas
