pub mod Linking
pub mod Standing
pub mod Answering
