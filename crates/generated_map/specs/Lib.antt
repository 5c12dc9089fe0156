-- the numbers that are drawn, and the changes that are made of them
pub mod Generated
-- making changes one after another
pub mod Runs
-- what is told in the end
pub mod Told
