mod Labels
mod Locals
mod Statements
pub mod Bodies
mod Params
mod FileScope
pub mod Units
mod WorkedUnits
mod ShapedBare
mod ShapedWritten
pub mod Digests
pub mod Whole
