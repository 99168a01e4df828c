pub mod Elements
pub mod Names
pub mod Places
pub mod View
