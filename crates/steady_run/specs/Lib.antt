-- what a run from nothing has done
pub mod FromNothing
