pub mod Receiving
pub mod Pasts
pub mod Lines
pub mod Rivals
pub mod Ascending
pub mod Showing
pub mod Collecting
pub mod Reasons
