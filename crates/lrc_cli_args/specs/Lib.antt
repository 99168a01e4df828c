pub mod Options
pub mod CommandLine
pub mod Files
pub mod Topics
