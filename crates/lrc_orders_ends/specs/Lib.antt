pub mod Ends
pub mod BySteps
