pub mod ReadNumbers
pub mod Ready
pub mod ReadyUnits
pub mod ErasedPlain
pub mod ErasedProbed
pub mod ErasedUnits
pub mod OwnPlain
pub mod OwnProbed
pub mod OwnUnits
pub mod Moved
pub mod MovedNodes
pub mod Claims
pub mod Told
pub mod Copied
pub mod Few
pub mod Rounds
pub mod Loops
pub mod SimNodes
pub mod SameConstants
pub mod SameInitials
pub mod SameCounts
pub mod SelectConstants
pub mod SimDecls
pub mod SimStatements
pub mod SimCalls
pub mod Simulation
mod Worked
mod WorkedTyped
