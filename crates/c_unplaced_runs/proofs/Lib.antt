mod Same
mod Results
mod Expressions
mod Statements
mod Calls
pub mod Runs
