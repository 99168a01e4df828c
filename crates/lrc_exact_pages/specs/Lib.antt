pub mod Pages
pub mod Laws
