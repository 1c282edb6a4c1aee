mod Apt
mod Copies
mod Orders
mod AptNodes
mod AptDecls
mod AptStatements
mod AptUnits
pub mod OrderlyPrograms
mod Along
mod Keeping
mod Notes
mod KindedNodes
mod KindedDecls
mod KindedStatements
pub mod KindedUnits
mod Depths
mod Steps
mod Parameters
mod StepUnits
pub mod Layered
mod Given
mod Walks
mod Definitions
pub mod Scalars
pub mod Programs
