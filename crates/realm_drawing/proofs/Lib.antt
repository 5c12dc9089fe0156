-- the points and the pieces of straight originals
pub mod StraightPieces
-- the points and the pieces of a drawing with one more straight original
pub mod Additions
-- originals in a map by id
pub mod ById
-- walks along originals by their ids
pub mod ChainWalks
-- copies of originals and of points
pub mod Copies
-- a search along the chains of a map of originals
pub mod ChainSearches
-- the keys of pieces
pub mod Keys
-- what lists of shares come to have
pub mod ShareLists
-- shares of the links of a path
pub mod LinkShares
-- shares of the owners of a piece
pub mod OwnerShares
-- pieces that keep their keys where a registry has more shares or fewer
pub mod KeptKeys
-- shares that are added to a registry or taken out
pub mod ShareChanges
-- the shares that a step takes away are of pieces
pub mod StepShares
-- the pieces that a registry comes to have, with their keys
pub mod FreshPieces
-- where the links of a chain stand, and what comes of a path there
pub mod Links
-- where a chain comes by a point
pub mod Places
-- a chain passes a piece at most once
pub mod Passings
-- a path without its last point
pub mod Fronts
-- the chains of originals, replaced one by one
pub mod Installations
-- the new chains of the owners of a piece
pub mod Owners
-- the new chains for a step
pub mod NewChains
-- the owners of pieces after a step
pub mod StepOwners
-- the shares that are listed for a step
pub mod SharesOfSteps
-- searches of the links of a chain
pub mod LinkSearches
-- steps that a search for a violation finds
pub mod FoundSteps
-- the vertices of redrawn chains
pub mod RedrawnVertices
-- a chain with the paths of a step
mod StepChains
-- the pieces of a drawing that is kept, and their keys
mod KeptPieces
-- the vertices of a drawing that is kept
mod Vertices
-- what a step draws anew, with keys
mod DrawnAnew
-- the list of all points
mod Listings
-- one more explicit point
mod KeptPoints
-- registries that lose shares
mod LostShares
-- a drawing with one chain more or less
mod KeptChanges
-- pairs of elements of a list in two parts
mod Pairs
-- where a scan over the box of a segment stops
mod Stops
-- what such a scan has listed by then
mod Scans
