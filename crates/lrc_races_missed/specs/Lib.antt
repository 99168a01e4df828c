pub mod Keys
pub mod Locating
pub mod Missed
pub mod Keyless
pub mod Racings
