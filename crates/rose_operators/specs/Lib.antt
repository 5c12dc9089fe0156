-- what every operator makes of values
pub mod Results
