-- lines that have an answer
pub mod Answered
