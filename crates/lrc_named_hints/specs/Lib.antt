pub mod Hint
pub mod HintTable
pub mod Spelled
