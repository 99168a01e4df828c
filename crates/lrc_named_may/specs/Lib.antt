pub mod FirstFault
pub mod Kind
pub mod Stops
