pub mod Earlier
mod Among
mod Counting
mod Fates
mod Held
mod Leading
mod Left
mod Spent
mod Waiting
