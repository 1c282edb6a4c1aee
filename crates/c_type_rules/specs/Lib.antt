pub mod Kinds
pub mod Verdicts
pub mod Laws
pub mod Layouts
