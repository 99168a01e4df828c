pub mod Charted
pub mod Explained
pub mod Lines
pub mod Reasoned
pub mod Runs
pub mod Showing
pub mod Shown
pub mod Stated
