-- copies of originals, for this crate's own proofs
pub mod Copies
