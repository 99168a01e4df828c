pub mod OneLemmas
pub mod Written
