-- payloads with a number, and the bytes that hold them
pub mod Generations
-- files that count, and what they hold
pub mod Files
-- the newest of two files, and what is wrong with them
pub mod Damages
-- a generation that is ready to be written
pub mod PreparedFields
-- the newest one, read
pub mod Finding
-- by their heads,
pub mod Choosing
-- and by its pages
pub mod ReadingPages
-- a generation is put on a file
pub mod Switching
