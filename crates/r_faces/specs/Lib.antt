-- cycles in the form in which they are written: turned to begin at the least vertex, and in order
pub mod Turned
-- the faces of a region, and how many they are
pub mod Faces
-- the cycles of faces: what a list of faces has to be
pub mod FaceCycles
-- segments in parts by numbers, for this crate's own proofs
pub mod Parted
-- the rims of faces, for this crate's own proofs
pub mod Rims
-- cycles round classes, for this crate's own proofs
pub mod Rounds
