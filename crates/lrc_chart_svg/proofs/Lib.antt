pub mod Blanks
pub mod Painted
pub mod Placed
pub mod Points
pub mod Said
pub mod Signs
