pub mod Marking
pub mod Seeded
