pub mod DeedKinds
pub mod Learned
pub mod Seen
pub mod Sent
pub mod StatsText
pub mod Turns
