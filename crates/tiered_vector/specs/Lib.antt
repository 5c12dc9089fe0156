-- a list in blocks, for this crate's own proofs
pub mod Blocks
