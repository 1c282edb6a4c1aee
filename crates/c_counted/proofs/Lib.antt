mod Counting
mod Judging
mod Naming
mod Expressions
mod Declarations
mod Statements
mod Units
mod Adding
mod AddingNodes
mod AddingDecls
pub mod AddingUnits
pub mod Labels
pub mod Counted
pub mod Written
mod Worked
mod WorkedSizes
