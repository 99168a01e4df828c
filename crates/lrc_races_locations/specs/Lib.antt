pub mod Rivals
pub mod Located
pub mod Spots
pub mod Finding
pub mod Taking
pub mod Spelled
pub mod Layouts
pub mod Lines
