-- close pieces
pub mod Close
-- lists of points, link by link
pub mod Chains
-- the hook of a piece at a point
pub mod Hook
-- the chains that may stand for an original
pub mod ValidChain
-- a path in the place of a piece
pub mod Redrawing
-- steps, each permitted where it stands, and the traces that settle a drawing
pub mod Steps
-- what a step asks, and when it may be taken
pub mod Mending
-- straight originals, and a drawing with one more
pub mod Straight
-- originals by rising id, and the chain that stands for one
pub mod Ids
-- originals that lead by one chain
pub mod OneChain
-- drawings with one original more or less
pub mod Changed
-- how many links chains have, and how far they have come
pub mod Measure
-- drawings whose chains may stand for their originals
pub mod StandingChains
-- least fractions above another
pub mod Fractions
-- a part of a hook in columns and rows of its own
pub mod Parts
-- how the columns and rows of a walk lie on the grid
pub mod Placing
-- ways that lead up against a line
pub mod Climbs
