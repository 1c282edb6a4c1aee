pub mod Cells
pub mod Putting
pub mod Listing
pub mod Spreading
