-- how far two texts agree
pub mod Agree
-- how far texts with a common front agree
pub mod Agreement
-- a token and then an exact rest
pub mod Exact
-- fixed words, and the end of the line
pub mod Literals
-- pairs of tokens
pub mod Pairs
-- rows of tokens to the end of the line
pub mod Rows
-- one or more tokens to the end of the line
pub mod SomeRows
-- runs of bytes that pass a test
pub mod Runs
-- names
pub mod NameTokens
-- numbers
pub mod Numbers
-- one of several words
pub mod Choices
-- the rows of the commands
pub mod CommandRows
-- the words of the lines
pub mod WordLemmas
-- places, and rows of them
pub mod PlaceRows
-- a place with or without a semicolon before it
pub mod Semicolons
-- the texts of lists
pub mod ListTexts
-- lists of places with semicolons between them
pub mod ListRows
-- names, and names with keys
pub mod NameRows
-- two lists of names
pub mod TwoLists
-- the texts of a token and a rest, and of a word and a rest
pub mod Compounds
-- what ends a line
pub mod Ends
-- what stands behind each keyword
pub mod FormLemmas
-- whole lines
pub mod Commands
-- how the text of lists begins
pub mod Texts
-- where a line is refused
pub mod Refusals
