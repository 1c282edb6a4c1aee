pub mod Steps
pub mod Alike
pub mod Fewer
pub mod Walks
pub mod Declared
pub mod Hushed
pub mod Quiet
pub mod QuietRuns
pub mod QuietCalls
pub mod Twice
pub mod Knots
pub mod Numbered
pub mod Steadily
pub mod Copies
pub mod SteadyNodes
pub mod SteadyRuns
pub mod Apart
mod Spelled
mod WorkedLoops
mod WorkedFaults
mod WorkedCalls
mod WorkedObjects
mod WorkedProbes
mod WorkedTests
mod WorkedRules
