pub mod Answering
pub mod Counted
pub mod OneCore
