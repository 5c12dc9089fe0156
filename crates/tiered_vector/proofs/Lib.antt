-- a list round one of its elements
pub mod Around
-- how many elements stand before each block
pub mod Starts
-- what an edit of one block makes of all elements, and of the starts
pub mod Edits
-- the block of a place
pub mod Places
-- a write to the last part of a vector
pub mod Written
