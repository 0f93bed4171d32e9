pub mod Programs
pub mod Terms
pub mod SyntaxView
pub mod Offsets
pub mod Sizes
pub mod ResultsWithReads
pub mod Evaluation
