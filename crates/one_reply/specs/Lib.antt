-- two answers to one line
pub mod Outcomes
-- states that fit into a payload
pub mod Payloads
-- queries and commands that are shown to be answered
pub mod Answerable
