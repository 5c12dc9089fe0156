-- the worked case of an index
pub mod Worked
