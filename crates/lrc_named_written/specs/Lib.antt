pub mod Privates
pub mod Written
