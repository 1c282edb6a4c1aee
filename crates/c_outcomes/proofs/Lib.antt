mod Sizes
pub mod Within
