pub mod Page
pub mod Pages
pub mod Place
pub mod Changes
pub mod Mask
