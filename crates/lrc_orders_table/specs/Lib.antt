pub mod RowHash
pub mod Links
pub mod Rows
pub mod All
pub mod Nexts
pub mod Going
pub mod Shared
pub mod Tables
