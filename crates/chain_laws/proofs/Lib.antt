-- what a filter leaves of originals
pub mod Filters
-- look-ups by an order tell keys apart
pub mod Lookups
-- some element of a list, and the elements of what `map` and `flat_map` make of one
pub mod Elements
-- strips along a diagonal
mod Strips
-- steep pieces of flat originals
mod SteepPieces
-- the vertices of a hook
pub mod HookVertices
-- hooks stay close to the original of their piece
pub mod AcrossAxes
-- what stands for a link of a redrawn chain
pub mod Stretches
-- ways that are joined to parts of chains
pub mod ChainJoins
-- paths that may stand for a piece in a chain
pub mod Replacements
-- chains with a hook in the place of a piece
pub mod RedrawnChains
-- the corners of a cell that two diagonals cross
pub mod CrossedCells
-- chains with a diagonal drawn round a corner, or cut
pub mod Corners
-- steps keep all chains valid
pub mod StepsKeep
-- valid chains stay in the envelope
pub mod ChainEnvelope
-- the places of a chain
mod ChainPlaces
-- on which side of a close link, and of a corner, grid points lie
mod SidesOfLinks
-- no valid chain passes a grid point
pub mod Unswept
-- sums over lists whose elements change
mod Sums
-- how many points redrawing gives a chain
mod AddedPoints
-- the paths that a permitted step draws
pub mod StepPaths
-- each step adds a link and takes none from any chain, and there are few
pub mod StepsAdd
-- the links of a path, one by one
pub mod PathLinks
-- sets of points, in order
pub mod PointSets
-- when a step mends a violation
pub mod Mendings
-- on which side of a piece a path stays
pub mod PathSides
-- the redrawings of each step
pub mod StepRedrawings
-- a binary search in a list along which a number rises
pub mod KeySearches
-- how far a chain has come at its points, and how many links it has
pub mod Progress
-- a chain stays in the box of its original
pub mod Boxes
-- close links and corners, from a place of a list on
pub mod CloseChains
-- links by their places
pub mod LinkPlaces
-- the ends of a list of points, and the segment between them
pub mod Ends
-- the links of paths that are joined or turned round
pub mod JoinedLinks
-- the links of a redrawn chain
pub mod RedrawnLinks
-- the links of a chain after a step
pub mod StepLinks
-- the order and the chains of originals after a step
pub mod RedrawnOriginals
-- what permitted steps lead to
pub mod StepOutcomes
-- originals with one chain, through steps
mod OneChains
-- the vertices of a path as ends of its links
pub mod PathEnds
-- what is promised of the chains that stand for originals
pub mod StandingChains
-- searches for a point inside a segment
pub mod ColumnSearches
