-- Of what intervals wrote.
pub mod History
pub mod Deeds
pub mod Pages
pub mod Notices
pub mod Turns
pub mod Nodes
pub mod Laws
