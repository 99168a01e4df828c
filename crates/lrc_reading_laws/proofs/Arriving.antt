-- Of arrivals at barriers and departures.
pub mod ArriveTurns
pub mod ArriveNews
pub mod ArriveWorlds
pub mod ArriveLaw
pub mod DepartSteps
pub mod DepartLets
pub mod DepartNews
