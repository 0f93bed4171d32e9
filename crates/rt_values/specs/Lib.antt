pub mod Limits
pub mod Values
pub mod Keywords
pub mod Operators
pub mod Maps
pub mod Views
pub mod WordLetters
