pub mod FoundLemmas
pub mod RowLemmas
pub mod TakenLemmas
pub mod TopicLemmas
mod WayLemmas
