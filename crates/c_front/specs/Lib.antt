pub mod Front
pub mod Names
