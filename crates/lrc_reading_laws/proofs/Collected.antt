-- Of collections, keepers and base copies.
pub mod Turns
pub mod Keepers
pub mod Local
pub mod Flips
pub mod Pairs
pub mod Agree
pub mod Covers
pub mod Bases
pub mod Serves
pub mod Held
pub mod Law
pub mod CopyReplies
