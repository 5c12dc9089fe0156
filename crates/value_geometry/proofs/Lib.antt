-- how often a segment stands in a list
pub mod Counts
-- the links of one chain
mod ChainLinks
-- the links of the chains of all parts
pub mod PartLinks
-- the part at a place
mod ListedParts
-- what a walk along originals comes by first
mod WalkedChains
-- pieces of a realm, and values that are made of them
pub mod RealmPieces
-- equal neighbours that cancel each other
pub mod Cancelling
-- what the links of all parts come to
mod SortedLinks
