pub mod Records
pub mod Envelope
