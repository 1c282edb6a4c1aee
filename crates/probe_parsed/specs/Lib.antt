pub mod Readable
pub mod Parsed
pub mod Sizes
