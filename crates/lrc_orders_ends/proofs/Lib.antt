pub mod Steadily
pub mod Behind
pub mod Ending
