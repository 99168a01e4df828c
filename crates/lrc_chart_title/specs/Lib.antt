pub mod Word
pub mod Title
