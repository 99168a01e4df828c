pub mod Among
pub mod Each
pub mod FirstPlaces
pub mod Measure
pub mod Rows
pub mod Unique
