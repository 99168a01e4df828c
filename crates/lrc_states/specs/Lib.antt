pub mod Objects
pub mod Names
pub mod Members
pub mod States
pub mod Players
