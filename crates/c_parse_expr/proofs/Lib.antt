pub mod ExprRead
pub mod SpecRead
pub mod DeclRead
