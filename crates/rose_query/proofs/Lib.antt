-- a value that has a geometry is shown by it
pub mod ValueAnswers
-- what is told of an operator's result
pub mod Results
-- what is said of the kinds of values by their names
pub mod NamedKinds
-- what is told of the faces of a value
pub mod FaceAnswers
-- the values with the names of a list
pub mod PresentValues
-- what is told of sums, parts, overlays and fusions
pub mod SetAnswers
-- no point of a value is inside a segment of one
pub mod DrawnOperands
-- what is told of a predicate or a number
pub mod Told
