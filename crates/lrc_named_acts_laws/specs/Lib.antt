pub mod Coded
pub mod Rounds
pub mod Standing
