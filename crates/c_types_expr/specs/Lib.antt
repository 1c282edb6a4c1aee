pub mod Groups
pub mod FieldNames
pub mod Forms
pub mod MembersView
pub mod Parts
pub mod Turns
