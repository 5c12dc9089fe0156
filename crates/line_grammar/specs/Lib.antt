-- the words of operators, predicates and numbers
pub mod Words
-- the parts of a text
pub mod Pieces
-- which parts have a text
pub mod Fitting
-- what may stand behind a first word
pub mod Slots
-- the commands, a row each
pub mod Rows
-- what code hands out of a command's parts
pub mod Parts
-- the one text of each command
pub mod Spelling
-- which commands have a text
pub mod Spellable
-- which texts are read, and where the others go wrong
pub mod Lines
-- reading tokens from left to right, with the place where it stops
pub mod Reading
-- reading one of several words
pub mod Choosing
-- reading lists with semicolons between them
pub mod Listing
-- reading lists of names
pub mod NameLists
-- reading what stands behind a keyword, and whole lines
pub mod Forms
