pub mod Comes
pub mod Expressions
pub mod Statements
pub mod Walks
