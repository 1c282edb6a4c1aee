mod Nodes
mod Decls
mod Functions
mod Statements
pub mod Units
