pub mod Tallies
pub mod StepLines
pub mod Pieces
pub mod Steps
pub mod RapidOrders
