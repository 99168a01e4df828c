pub mod Noter
pub mod Notes
pub mod Noting
pub mod Signs
