pub mod Scopes
pub mod Owed
pub mod Building
