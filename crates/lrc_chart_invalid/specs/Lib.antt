pub mod Invalidated
