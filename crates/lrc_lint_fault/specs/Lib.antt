pub mod Hint
pub mod HintTable
pub mod Spelled
pub mod Told
