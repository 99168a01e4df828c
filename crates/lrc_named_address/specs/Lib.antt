pub mod Address
pub mod View
