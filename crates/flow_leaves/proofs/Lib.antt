mod Yields
mod Stepping
pub mod Layers
pub mod Places
mod WorkedCells
pub mod Leaves
pub mod Names
pub mod Wholes
mod WorkedLeaves
