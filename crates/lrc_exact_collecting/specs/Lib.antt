pub mod Left
pub mod Kept
pub mod Laws
