mod Preorder
mod Innermost
mod Holding
mod Adding
mod Heads
mod Expressions
mod Statements
mod Tokens
pub mod Ordering
pub mod Blocks
mod Along
pub mod AlongUnits
mod Worked
