pub mod Longer
pub mod Numbers
pub mod Serving
pub mod Exact
pub mod Worlds
pub mod Start
pub mod Theorem
