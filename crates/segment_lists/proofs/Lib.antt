-- a sorted list, each segment once
pub mod Sorts
-- segments that leave each other alone are those of a realm, and back
pub mod Noding
-- binary searches in ascending lists
pub mod Searches
