-- the bytes of each reply
pub mod Replies
-- replies in a state, and causes to refuse a query
pub mod Causes
-- what predicates and numbers of values are answered
pub mod Asking
-- what `faces` is answered
pub mod Outlines
-- what operators on lists of values are answered
pub mod Sets
-- what each query is answered
pub mod Answers
-- what is told of an operator's result, for this crate's own proofs
pub mod Results
-- what is told of a predicate and of a number, for this crate's own proofs
pub mod Told
-- what is told of sums and parts, for this crate's own proofs
pub mod ToldSets
