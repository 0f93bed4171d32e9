pub mod Flats
pub mod Grows
pub mod Lookups
pub mod Operands
pub mod Evaluating
pub mod NotedReads
