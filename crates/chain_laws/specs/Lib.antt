-- the redrawings of a step
pub mod Redraws
-- what stands for a link of a redrawn chain
pub mod Stretches
-- lists of points that lead from end to end of a segment, for this crate's own proofs
pub mod Courses
