pub mod SmallPrograms
pub mod Sizes
pub mod StatementForests
