pub mod Events
pub mod Exact
pub mod Met
pub mod Answer
pub mod Performance
pub mod Reading
pub mod ReadingSeen
pub mod Showing
