pub mod Placing
pub mod Unplaced
