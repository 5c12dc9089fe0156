-- what it means that a region sweeps across no grid point
pub mod Unswept
