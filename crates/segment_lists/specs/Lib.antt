-- segments by the numbers of their ends
pub mod Ends
-- segments that are on the grid, the lesser end first
pub mod OnGrid
-- segments that cross, or lead into one another
pub mod Disturbed
