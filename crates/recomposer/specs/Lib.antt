pub mod AppliedFrames
pub mod Compositions
pub mod FrameContracts
pub mod Composed
pub mod FrameEnds
