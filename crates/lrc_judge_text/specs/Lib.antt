pub mod BrokenOff
pub mod Judgement
pub mod PairsTold
pub mod RacingPairs
