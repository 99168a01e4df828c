pub mod Naming
pub mod Reports
pub mod Led
pub mod Listed
pub mod Numbered
pub mod Telling
pub mod Ending
