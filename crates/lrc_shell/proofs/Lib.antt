pub mod PlayLemmas
pub mod MoreLemmas
