-- records that lead one after another
pub mod Rises
-- states and frames of a history
pub mod Histories
-- a follower over one frame, and over many lines
pub mod Followers
-- that lines have one output
pub mod OneOutput
-- a primary and its follower over events
pub mod Events
-- that no list of events is impossible
pub mod Possible
-- a follower that acknowledges all that is sent for it has the present state
pub mod Deliveries
