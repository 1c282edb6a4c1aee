pub mod Own
pub mod Nils
pub mod Adding
pub mod Parts
pub mod Copied
pub mod Formed
pub mod Nodes
pub mod Declarations
pub mod Cases
pub mod Flows
pub mod Early
pub mod Routines
pub mod Laws
mod Worked
pub mod Lists
pub mod Made
pub mod Told
pub mod Pairs
mod WorkedPairs
