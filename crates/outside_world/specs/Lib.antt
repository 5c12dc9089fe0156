-- when a count of faults has risen
pub mod Counts
-- what a world tells
pub mod View
-- what a crash may leave of a file, byte by byte
pub mod Disk
-- what each call does to it
pub mod Calls
-- what came to be over many calls
pub mod Since
-- what holds over any calls
pub mod GoesOn
-- what calls did
pub mod Events
-- what they make of a file, and what a crash may leave of it
pub mod Files
-- what a list of calls tells
pub mod History
-- torn ranges and images
pub mod TornImages
-- the laws of what a list of calls tells
pub mod ViewLaws
-- the log of a world in memory
pub mod Log
-- a log, by its fields
pub mod LogFields
-- a world in memory, and its calls
pub mod Memory
-- a world in memory, by its fields
pub mod MemoryFields
-- a steady world
pub mod Steady
-- a steady world, by its fields
pub mod SteadyFields
