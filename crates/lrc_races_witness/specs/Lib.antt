pub mod Past
pub mod Relations
pub mod Showing
pub mod Spelled
pub mod Answer
