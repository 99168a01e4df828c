pub mod Known
pub mod Lines
