pub mod Calm
pub mod Events
pub mod Layout
pub mod Listed
pub mod One
