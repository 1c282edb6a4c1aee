pub mod Lists
pub mod Stated
pub mod Functions
pub mod Digests
pub mod Programs
