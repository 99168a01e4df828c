pub mod Collecting
pub mod Current
pub mod First
pub mod Keepers
pub mod LookedAt
pub mod Memory
pub mod Shape
