pub mod Cycles
pub mod Onward
pub mod Held
pub mod Links
pub mod Deeds
pub mod Spelled
pub mod Answers
