pub mod Reached
pub mod Answers
pub mod Traps
pub mod Cut
pub mod Met
pub mod Told
pub mod Ended
