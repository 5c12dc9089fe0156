-- the lines of a change, for this crate's own proofs
pub mod Telling
