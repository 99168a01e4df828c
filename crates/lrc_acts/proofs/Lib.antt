pub mod WordLemmas
pub mod LineLemmas
pub mod PrintLemmas
pub mod OneLemmas
