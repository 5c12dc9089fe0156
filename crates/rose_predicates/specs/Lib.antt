-- what predicates say of two values
pub mod Predicates
-- sides of a border that lie in the outer class of another, for this crate's own proofs
pub mod Closing
