pub mod Gathering
pub mod HandedOn
pub mod NextPast
pub mod Rows
pub mod Breaking
pub mod Tally
mod Deeds
pub mod Keeping
pub mod Naming
mod Leading
mod Firstness
pub mod Ascending
mod Touching
mod LastWritten
pub mod Additions
mod Entering
mod Crossing
pub mod Representing
mod OfOne
mod PairOrder
mod LatestWrites
mod Allowed
mod Searching
pub mod Comparing
pub mod Distinct
pub mod Segments
pub mod Strictly
