pub mod Afterwards
pub mod Led
pub mod Placed
pub mod Coming
pub mod Values
