pub mod Todo
pub mod Forms
pub mod Run
