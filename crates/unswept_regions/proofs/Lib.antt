-- a test that turns once along a chain turns as on the straight way
pub mod Turning
-- rising and falling links, by tests in columns and in rows
pub mod LinkTests
-- how a point lies to the places of a segment
pub mod Lies
-- chains beside which a grid point lies in one way
pub mod TurningChains
-- chains that pass no grid point count as straight ways
pub mod StraightChains
-- the chain of an original counts as the original
pub mod OriginalChains
-- borders have the parity of the parts as given
pub mod BorderParity
