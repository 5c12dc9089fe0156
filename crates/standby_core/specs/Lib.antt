-- bytes as digits
pub mod Digits
-- frames and their lines
pub mod Frames
-- which frames come next
pub mod Verdicts
-- which frames are sent
pub mod Shipping
