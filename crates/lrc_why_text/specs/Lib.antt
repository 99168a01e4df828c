pub mod Told
pub mod Knowing
pub mod Learning
pub mod Faults
pub mod Answers
