-- each crossing has a step that mends it
pub mod CrossingSteps
-- there is a violation or none
pub mod Violations
-- settling ends
pub mod Settling
