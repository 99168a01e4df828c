pub mod Marking
pub mod Seeded
pub mod Keeping
pub mod Leading
pub mod Passing
pub mod Striding
