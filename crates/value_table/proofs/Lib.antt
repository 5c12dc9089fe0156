-- counts of keys that ascend, and of the values that name one
pub mod Counts
-- counts where a value goes, or all are copied
pub mod Changes
-- names and numbers that tell each other
pub mod Inverses
-- what is found by the number of a name
pub mod Numbering
-- the list of definitions where one comes or goes
pub mod Numbered
-- definitions that are put one by one
pub mod NewNames
