pub mod ScreenCalls
pub mod ScreenFrames
