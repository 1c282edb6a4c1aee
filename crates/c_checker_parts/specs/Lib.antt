pub mod LengthView
pub mod SpelledView
