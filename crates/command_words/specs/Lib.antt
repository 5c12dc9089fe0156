-- which words are a command
pub mod Written
-- what the parser of command lines is told, and what it tells
pub mod Parsing
