pub mod Order
pub mod Laws
