-- how the parser takes one word that is no flag
pub mod Steps
-- which words are names of commands
pub mod FirstWords
-- which words the parser takes, and what it tells of them
pub mod Levels
-- what that says of the commands
pub mod Spellings
