-- states
pub mod State
-- what a change asks for, as its line writes it
pub mod Lines
-- what values are made of
pub mod Values
-- what an operator is applied to, and what it makes of it
pub mod Operands
-- what a change draws
pub mod Figures
-- why a change is refused
pub mod Refusals
-- what a change makes of the drawing and of the values
pub mod Changes
-- what one drawing has and another hasn't
pub mod Differences
-- one change of the state
pub mod Next
-- traces that don't settle what a change makes
pub mod Misfits
-- what every engine that isn't spent is like
pub mod Kept
-- snapshots of states, and which states are valid
pub mod Snapshots
-- what is still to be looked at, for this crate's own proofs
pub mod Work
-- how the index follows a change, for this crate's own proofs
pub mod Indexing
-- what the search round one piece looks for, for this crate's own proofs
pub mod Clashes
