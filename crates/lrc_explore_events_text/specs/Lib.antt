pub mod Shows
pub mod Met
