pub mod Leaves
pub mod Elements
pub mod Numbering
pub mod Spellings
pub mod Joined
pub mod Apart
pub mod Laws
pub mod Bounds
pub mod Few
pub mod Owned
pub mod Made
mod Worked
