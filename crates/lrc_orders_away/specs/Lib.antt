pub mod Away
pub mod Undisputed
