pub mod StatementCases
pub mod ForestSteps
pub mod Blocks
