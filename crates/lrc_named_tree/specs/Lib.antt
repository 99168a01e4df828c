pub mod Ends
pub mod Grammar
pub mod Tree
pub mod View
