pub mod UnitWhole
pub mod UnitRead
