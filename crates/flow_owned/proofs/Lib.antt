mod OwnStates
mod OwnNodes
mod OwnParts
mod OwnUnits
mod Words
mod Lines
mod ApartNodes
mod ApartParts
mod ApartUnits
pub mod Programs
