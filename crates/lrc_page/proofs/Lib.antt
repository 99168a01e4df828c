pub mod ChangeLists
pub mod Masks
pub mod PageLists
