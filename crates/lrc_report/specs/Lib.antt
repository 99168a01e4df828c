pub mod Output
pub mod ReportText
