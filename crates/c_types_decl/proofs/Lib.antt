pub mod Named
pub mod Lists
pub mod Parts
pub mod Counts
pub mod Demanded
pub mod Enough
pub mod Items
pub mod Listed
