pub mod Player
pub mod Playing
