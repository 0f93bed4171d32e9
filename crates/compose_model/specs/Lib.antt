pub mod Composing
pub mod Frame
pub mod SmallPrograms
pub mod StatementForests
