-- the numbers of a state
pub mod Numbers
-- drawings that a snapshot may keep
pub mod Drawable
-- tables that a snapshot may keep
pub mod Tabled
-- lists of points in pairs, for this crate's own proofs
pub mod Pairs
