-- ascending lists with the same elements
pub mod AscendingLists
-- there is one result
pub mod OneResult
-- what holds of every result
pub mod Rows
