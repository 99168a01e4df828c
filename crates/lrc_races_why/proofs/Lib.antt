pub mod Cycling
pub mod Gating
pub mod Following
pub mod Holding
pub mod Linking
pub mod Answering
pub mod Wording
