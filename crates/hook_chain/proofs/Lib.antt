-- the axes that pieces follow, and how a way bends
pub mod Axes
-- facts on all vertices and links of a path
pub mod Paths
-- taut paths, of which there is one
pub mod TautPaths
-- close by the sides of grid points
pub mod Closes
-- segments with their ends in either order
pub mod Exchange
-- each piece follows an axis
pub mod Directions
-- the parts of a bent hook are taut
pub mod BentPaths
-- a piece has one hook at a point
pub mod HookLaw
-- neighbours among fractions
mod Farey
-- the walk along least fractions
pub mod Walks
-- the places of a walk on the grid
pub mod Placings
-- the points at the places of a walk are a taut path
pub mod PlacedParts
-- taut paths the other way
pub mod Reversals
-- two taut paths are the parts of a bent hook
pub mod Joins
-- the charts of a piece
pub mod PieceCharts
-- the points that a walk has come by
pub mod Traces
-- the two walks make up a hook
pub mod HookParts
-- least fractions with small denominators
pub mod LeastFractions
-- a piece has a hook at each point near it
pub mod Existence
-- hooks are close to their pieces
pub mod CloseHooks
-- ways that hold the points between
mod HeldPoints
-- ways that climb: what a few of them say of all the steeper ones
mod Climbs
-- the search along a piece, turn by turn
mod Descents
-- closeness as a matter of ways in raised columns
mod Raised
-- when a piece is clear of a line
mod Clear
-- the search decides for a piece that isn't vertical
mod Slanted
-- vertical pieces
pub mod Upright
-- pieces of close pieces, and an original itself
pub mod CloseParts
-- grid points on close pieces
pub mod CloseNear
