pub mod Trees
pub mod Holders
pub mod Parts
pub mod Outlines
pub mod Ordered
pub mod Texts
