-- open and closed gates
pub mod Gates
-- what a block stands for that is ready to be written
pub mod BlockFields
-- and the block of a record
pub mod PreparedFields
-- a text that is appended, and what a crash may leave meanwhile
pub mod Appending
-- a gate that is shut
pub mod Shutting
-- a file that is read
pub mod Reading
-- records that are read
pub mod Scanning
-- and handed out one after another
pub mod Handing
