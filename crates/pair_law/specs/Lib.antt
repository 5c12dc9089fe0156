-- histories, their states and their frames
pub mod History
-- what a follower makes of a line
pub mod Following
-- what a primary sends
pub mod Sending
-- a primary and its follower, with all that is on the way between them
pub mod Pair
-- what holds of them
pub mod Law
-- a follower that gets all that is sent for it
pub mod Delivery
