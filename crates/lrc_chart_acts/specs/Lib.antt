pub mod Direct
pub mod Shown
pub mod Times
pub mod Rows
pub mod Picture
