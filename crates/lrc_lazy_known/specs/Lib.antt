pub mod Knowing
pub mod Word
pub mod Made
pub mod Effect
pub mod Tidy
