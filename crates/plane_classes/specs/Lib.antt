-- cells, and the classes that they make
pub mod Classes
-- a shear of the plane
pub mod Shear
