pub mod TextLemmas
pub mod WriteLemmas
