pub mod Stands
pub mod Laws
