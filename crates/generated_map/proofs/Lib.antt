-- one more change of a run
pub mod MadeRuns
