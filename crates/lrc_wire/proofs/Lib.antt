pub mod Steps
pub mod Elements
pub mod Entries
pub mod Along
pub mod Shapes
pub mod Bytes
pub mod Agrees
mod Sequences
pub mod Fields
pub mod Intervals
pub mod NextInterval
pub mod Listed
mod Singly
mod Cuts
mod ChangeParts
pub mod Bodies
pub mod Envelopes
pub mod Written
pub mod Lengths
mod Runs
mod Leads
mod PageValues
