pub mod Flatness
pub mod Operands
pub mod EvaluatesReading
