-- what a record makes of a state
pub mod Leading
-- what the two files stand for
pub mod Stands
-- what they stood for when each record was one change
pub mod Before
-- files that stand for no state
pub mod Damages
-- what every state of a store is like
pub mod Sound
-- what is kept of the files
pub mod Keeping
-- the reply to a change
pub mod Replies
-- what a change makes of what is kept
pub mod Making
-- what a record of another store makes of it
pub mod Accepting
-- the gate behind which the next record is to be written
pub mod NextGates
-- a group as a store holds it
pub mod Groups
-- what the writing of a change and of a generation does
pub mod Committing
-- a change that is made and waits to be written
pub mod ReadyChanges
-- a record of another store that waits to be written
pub mod ReadyRecords
-- what a checkpoint makes of what is kept
pub mod Renewing
-- what a state from elsewhere makes of what is kept
pub mod Adopting
-- what the start of a store tells
pub mod Starting
-- the journal of the newest file
pub mod Journals
-- records whose changes are made again
pub mod Replaying
-- and a row of them
pub mod Remaking
-- what is opened of the files when a store is started
pub mod Opening
