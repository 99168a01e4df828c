pub mod Logs
pub mod Sizes
pub mod SoFar
pub mod SeenNumbers
