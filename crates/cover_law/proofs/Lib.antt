mod Tests
mod Lasts
pub mod Covering
