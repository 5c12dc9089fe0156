-- values, and the ids and points among their parts
pub mod Value
-- tables of values by name, and how many values name an id or a point
pub mod Table
-- counts of users, for this crate's own proofs
pub mod Users
-- how a table is kept, for this crate's own proofs
pub mod Kept
