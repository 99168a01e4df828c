pub mod Alike
pub mod Dead
mod Tables
pub mod Like
