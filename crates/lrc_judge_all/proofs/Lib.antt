pub mod Gathering
pub mod Keeping
pub mod MayGive
pub mod Readers
pub mod LastOne
pub mod Memory
pub mod GivenReads
pub mod Telling
