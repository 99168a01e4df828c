pub mod Leaving
pub mod Keeping
pub mod Coming
pub mod Earliest
pub mod Down
pub mod Choosing
