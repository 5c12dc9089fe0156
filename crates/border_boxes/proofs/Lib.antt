-- a box that is widened by one segment
pub mod BoxSteps
-- places in a box, and off it
pub mod PlacesInBoxes
-- what isn't strictly inside the box of a border is outer, where it is free
pub mod OutsideBoxes
-- boxes that have no place in common
pub mod BoxesApart
