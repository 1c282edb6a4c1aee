pub mod Objects
pub mod Lists
pub mod Determined
pub mod Compact
pub mod Worked
