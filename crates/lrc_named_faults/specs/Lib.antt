pub mod Bodies
pub mod Checked
pub mod Declarations
pub mod Found
pub mod Layout
pub mod Program
pub mod Values
