pub mod Fronts
pub mod Lines
pub mod Numbers
pub mod Pushed
pub mod Each
