-- a sound registry is told by its keys and owners
pub mod Registries
-- how often points are used
pub mod Uses
-- points and segments that a look-up tells apart
pub mod Lookups
-- the sorted keys of a map
pub mod OrderedKeys
-- what clauses see of the map and the slab
pub mod Seen
-- one change of the map and of the slab
pub mod Changes
-- owners put in their places and taken out
pub mod OwnerLists
-- one change of the counts
pub mod EndCounts
-- clones of what is kept
pub mod Copies
