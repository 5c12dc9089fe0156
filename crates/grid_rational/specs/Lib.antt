-- rational points within the grid
pub mod Extent
-- the fraction that stands for a rational point
pub mod Fraction
-- how two segments meet
pub mod Meeting
