mod ActLemmas
pub mod NamingLemmas
mod TextLemmas
mod SoughtLemmas
mod JudgedLemmas
pub mod SessionLemmas
