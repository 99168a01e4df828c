pub mod Turning
pub mod Settling
pub mod Table
pub mod Gone
pub mod Taking
