-- Of the traces of nodes.
pub mod Notes
pub mod Runs
pub mod Worlds
pub mod Segments
pub mod Laws
