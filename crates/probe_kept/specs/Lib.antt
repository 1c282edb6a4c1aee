pub mod ReadBack
pub mod Kept
