-- Of the intervals that were closed, by every history of a run: what is made, told, stored and known of them.
pub mod Stocks
pub mod Told
pub mod MadeSteps
pub mod MadeManagers
pub mod MadeWorlds
pub mod Stored
pub mod History
pub mod KnownStores
pub mod Known
