-- originals in a map by id, for this crate's own proofs
pub mod ById
-- what every drawing that is kept here is like
pub mod Kept
-- drawings with the keys of their pieces
pub mod Keyed
-- walks along originals by their ids
pub mod Walks
-- the new chains of a step, for this crate's own proofs
pub mod Redraws
-- shares of pieces, and registries with more and with fewer of them, for this crate's own proofs
pub mod Shares
-- where a chain passes a point or a piece, for this crate's own proofs
pub mod Passages
-- the pieces that a registry comes to have, for this crate's own proofs
pub mod Fresh
-- the shares that a step adds and takes away, for this crate's own proofs
pub mod StepShares
-- what a search for a violation finds, for this crate's own proofs
pub mod Found
-- what a step draws
pub mod Draws
-- registries that lose shares, for this crate's own proofs
pub mod Leaving
-- scans of explicit points over the box of a segment, for this crate's own proofs
pub mod Scans
