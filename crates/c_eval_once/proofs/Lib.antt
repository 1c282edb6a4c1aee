pub mod Once
pub mod Told
pub mod Standing
pub mod Copied
