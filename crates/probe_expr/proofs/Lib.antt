pub mod Counting
pub mod Listing
pub mod Lists
pub mod Joined
