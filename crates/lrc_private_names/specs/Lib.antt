pub mod Statement
pub mod Spelling
pub mod Standing
pub mod Ways
