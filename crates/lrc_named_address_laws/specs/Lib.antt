pub mod Elements
pub mod Values
