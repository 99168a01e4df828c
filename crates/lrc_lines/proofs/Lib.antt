pub mod Agreeing
pub mod Begins
pub mod Following
pub mod Making
pub mod Numbering
pub mod Passing
pub mod Placing
pub mod Several
