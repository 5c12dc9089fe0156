-- a record leads to one state, and a payload opens one
pub mod LedOnce
-- that a state has one payload
pub mod Payloads
-- what a payload without bytes opens
pub mod EmptyStates
-- what files without a byte stand for
pub mod EmptyFiles
-- what the next gate is, and how it is made ready
pub mod ReadyGates
-- what is seen of a group
pub mod Groups
-- what a commit makes and leaves
pub mod Commits
-- what the acceptance of a record makes and leaves
pub mod Acceptances
-- what the end of a group makes
pub mod Endings
-- what the writing of a generation makes
pub mod Checkpoints
-- and two files have one reading
pub mod OneReading
-- what files stood for when each record was one change
pub mod OldImages
-- where a record leads that is made again
pub mod Replays
-- where a row of records leads that is made again
pub mod Remakings
-- that an answer has one error
pub mod Errors
-- that files stand for what their journal leads to
pub mod Journals
-- what the payload of the newest file tells
pub mod Bases
-- what files stand for whose records were made again
pub mod Openings
-- what the start of a store tells
pub mod Starts
