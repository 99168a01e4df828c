pub mod AnswerLemmas
pub mod LintedLemmas
pub mod ReadingLemmas
pub mod ShownLemmas
