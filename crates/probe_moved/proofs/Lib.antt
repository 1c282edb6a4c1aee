pub mod Kept
pub mod KeptUnits
pub mod States
pub mod Marked
pub mod Decls
pub mod Statements
mod Moves
