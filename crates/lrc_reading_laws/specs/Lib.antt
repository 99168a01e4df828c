pub mod Made
pub mod Written
pub mod Acted
pub mod Known
pub mod Requested
