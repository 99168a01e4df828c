pub mod More
pub mod Outlet
