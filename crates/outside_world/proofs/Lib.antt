-- what one call more makes of a file
pub mod NotedFiles
-- what it adds to a view that is read off a list of calls
pub mod NotedCalls
-- what that is told as
pub mod ToldCalls
-- what a log tells that has noted a call
pub mod ToldLog
-- what a world in memory tells of its calls
pub mod ToldMemory
-- what the fields of a log stand for
pub mod FieldEvents
-- and how they go on standing for it, one call later
pub mod NotedFields
-- the numbers of the calls that fail
pub mod FailingNumbers
-- what a crash leaves of a file, by its calls made again
pub mod Replays
-- which is one of its images
pub mod LeftImages
-- what an image was before its last range was torn
pub mod TornBytes
-- which files are images because others are
pub mod Mixtures
-- how runs of calls go on
pub mod Moments
-- and such as write one file
pub mod FileRuns
-- what fits into the memory that is reserved
pub mod Rooms
-- and what holds over any calls
pub mod GoingOn
