pub mod Paths
pub mod Held
pub mod Work
pub mod Listing
pub mod Passing
