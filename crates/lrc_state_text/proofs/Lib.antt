pub mod Lists
mod Places
