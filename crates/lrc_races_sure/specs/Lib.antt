pub mod Leading
pub mod Sure
pub mod Reordering
