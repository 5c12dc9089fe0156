-- bytes in base 16
pub mod Base16
-- the line of each status
pub mod Said
