pub mod Worked
pub mod Patterns
pub mod Results
