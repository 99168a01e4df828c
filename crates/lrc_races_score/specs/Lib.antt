pub mod Claims
pub mod Report
