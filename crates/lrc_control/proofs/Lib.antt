pub mod Texts
pub mod Episodes
