pub mod PrintedRun
pub mod JudgedRun
pub mod Traces
