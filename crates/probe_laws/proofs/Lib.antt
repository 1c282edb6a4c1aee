mod Counted
pub mod FewItems
pub mod Settled
pub mod Known
pub mod Rules
pub mod KnownParts
pub mod KnownNodes
pub mod FitNodes
pub mod FitDecls
pub mod FitStatements
pub mod BareMarks
pub mod FitUnits
pub mod Laws
pub mod Owners
mod Worked
