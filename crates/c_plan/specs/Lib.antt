pub mod Extents
pub mod Starts
pub mod Names
pub mod Parts
pub mod Routines
