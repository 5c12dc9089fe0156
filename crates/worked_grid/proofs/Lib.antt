-- the boxes of the worked case, and how many are near
pub mod WorkedCase
