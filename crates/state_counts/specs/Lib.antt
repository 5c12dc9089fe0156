-- how much is in a state, and the lines that tell it
pub mod Counts
