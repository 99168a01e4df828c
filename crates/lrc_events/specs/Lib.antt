pub mod EventsText
pub mod Writing
