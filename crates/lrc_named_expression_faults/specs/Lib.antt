pub mod Counts
pub mod Expressions
pub mod Extent
pub mod Fault
pub mod Scope
pub mod Spelled
pub mod View
