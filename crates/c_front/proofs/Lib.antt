pub mod Lexed
pub mod One
