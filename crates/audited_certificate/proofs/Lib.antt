-- the lines of a certificate have no line feed within
mod Lines
-- what a run of each word says of the other
mod Runs
