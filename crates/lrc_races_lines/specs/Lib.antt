pub mod Line
pub mod Cause
pub mod Table
pub mod Lacking
