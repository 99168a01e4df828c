pub mod Chain
pub mod Indices
pub mod Pushed
pub mod Setting
pub mod Wells
