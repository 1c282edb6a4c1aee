pub mod Logged
pub mod Lists
pub mod Sizes
pub mod Done
