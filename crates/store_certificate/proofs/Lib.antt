-- which originals have the ids that others lack
pub mod Ids
-- that steps leave ids as they are
pub mod SettledIds
-- which ids a change leaves and brings
pub mod ChangedIds
-- what a change takes away
pub mod LostItems
-- which originals have an id below a number
pub mod RisingIds
-- what a change draws
pub mod NewOriginals
-- the lines of a change
pub mod ChangeItems
-- chains that may stand for originals
pub mod Openings
-- entries that are made again
pub mod Entries
