pub mod Draws
pub mod Generation
pub mod Inputs
pub mod Summary
