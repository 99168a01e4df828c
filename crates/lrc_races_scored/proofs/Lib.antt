pub mod Zipping
pub mod Adding
pub mod Saying
pub mod SortLemmas
pub mod MissedLemmas
pub mod ScoreLemmas
pub mod TracedLemmas
