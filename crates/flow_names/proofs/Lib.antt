pub mod Steps
mod Copied
pub mod Nodes
pub mod Names
