pub mod CourseLemmas
pub mod LineLemmas
pub mod RunLemmas
pub mod ShowingLemmas
pub mod StatedLemmas
