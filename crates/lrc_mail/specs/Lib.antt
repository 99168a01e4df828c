pub mod Spans
pub mod Sent
