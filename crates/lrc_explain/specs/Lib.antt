pub mod Access
pub mod Before
pub mod Explain
pub mod Groups
pub mod Held
pub mod Site
pub mod Waiting
