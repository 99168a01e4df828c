pub mod Live
pub mod Like
