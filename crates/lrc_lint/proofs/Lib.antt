pub mod Apart
pub mod Program
