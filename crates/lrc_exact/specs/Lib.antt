pub mod LocalRule
pub mod Memory
pub mod Rule
pub mod Laws
