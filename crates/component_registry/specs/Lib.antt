-- registries as maps: their keys, owners and uses of points, and the changes of one owner
pub mod Registry
-- how pieces are kept, for this crate's own proofs
pub mod Kept
-- how uses of points are counted, for this crate's own proofs
pub mod Ends
