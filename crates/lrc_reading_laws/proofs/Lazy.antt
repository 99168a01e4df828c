-- Of lazy reading, and the theorem.
pub mod Writes
pub mod Made
pub mod Times
pub mod Turns
pub mod Reads
pub mod Theorem
