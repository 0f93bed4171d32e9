pub mod Draws
pub mod GeneratedProgram
pub mod GeneratedScript
pub mod Tallies
pub mod Counting
pub mod SummaryText
