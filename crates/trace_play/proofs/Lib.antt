pub mod FrameLines
pub mod CallSteps
pub mod Histories
pub mod Runs
