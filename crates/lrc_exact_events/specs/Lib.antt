pub mod Drained
pub mod Playing
