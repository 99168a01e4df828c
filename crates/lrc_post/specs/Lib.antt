pub mod Wires
pub mod Mailbox
pub mod Post
