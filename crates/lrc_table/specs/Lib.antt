pub mod PageCopy
pub mod Table
