pub mod Given
pub mod Testing
pub mod KeyLemmas
pub mod KeyFinding
pub mod EventLemmas
pub mod PairLemmas
pub mod LocationLemmas
pub mod VariableLemmas
