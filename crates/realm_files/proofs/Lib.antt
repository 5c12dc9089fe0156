-- files given as functions of their names
pub mod Pairs
-- records depend on what stands before the next gate
pub mod Fronts
-- and so does the newest file
pub mod NewestFronts
-- runs of calls that take and give nothing
pub mod Runs
-- files at rest
pub mod Rests
-- what files stand for while a record is appended
pub mod Appends
-- what they stand for while the next generation is put on the other
pub mod Renewals
-- from a gate on a file has one row of records
pub mod LedOnce
-- and two files have one reading
pub mod OneReading
-- records in a row, where they lead
pub mod LedRows
-- files that were synced and read
pub mod Syncs
-- what file A stood for alone
pub mod Alones
-- the gate before a record is made ready
pub mod ReadyGates
-- files stand for the same by a wider meaning
pub mod Wider
