pub mod Asked
pub mod Due
pub mod Along
